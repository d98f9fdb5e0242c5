-- The machines that a format and an allowed list of calls lead to, and what the one theorem says at each of them. Every corollary starts here.
use Prim.Native.Nat.{ℕ}
use mathlib.Core.Path.{◌≡◌, refl, sym, ap, subst, ◌∙◌}
use mathlib.Core.Bool.{Bool, true, false, ◌||◌}
use mathlib.Core.List.{List, [], ◌∷◌, ◌++◌}
use lib.Dec.{T}
use lib.ListN.{length}
use Rattle.base.specs.Each.{Each}
use Rattle.image.specs.Size.{size_right}
use Rattle.store.specs.Format.{noise_size, buffers_right}
use Rattle.guarantee.specs.Call.{Call, mount, write, read, cut_off, commit, wipe, gather, Event, is_mount, lent_right}
use Rattle.guarantee.specs.Book.{entered}
use Rattle.guarantee.specs.Machine.{Machine, start, step, Allowed, fate_of, outcome_at, left_at}
use Rattle.guarantee.specs.Statement.{AtRest, AtCall, Always}
pub use Rattle.guarantee.specs.History.{end_of, History}
use Rattle.guarantee.proofs.Finish.{Standing, call-standing, start-standing, guarantee}

-- ---- lists and where they lead
-- a call may come next: any while the power is on, else a mount; and a mount with buffers of the right lengths
abbrev pub Permitted : Machine → Event → Type 0
Permitted m e = T (m.on || is_mount e.call) × T (lent_right e.call)

pub while_on : (m : Machine) → T m.on → (b : Bool) → T (m.on || b)
while_on m on b = go m.on on
  where
    go : (a : Bool) → T a → T (a || b)
    go true t = tt
    go false t = absurd t

-- every allowed list after a format is one
pub history : (img map letters noise : List ℕ) → T (size_right img) → T (buffers_right map letters) → length noise ≡ noise_size → (es : List Event)
    → Allowed (start img map letters noise) es → History (end_of (start img map letters noise) es)
history img map letters noise size lent long es a =
    record { image = img; map = map; letters = letters; noise = noise; size = size; lent = lent; long = long; events = es; allowed = a; here = refl }

-- ---- one call more
pub end_then : (m : Machine) (es : List Event) (e : Event) → end_of m (es ++ (e ∷ [])) ≡ step (end_of m es) e
end_then m [] e = refl
end_then m (f ∷ es) e = end_then (step m f) es e

allowed_then : (m : Machine) (es : List Event) (e : Event) → Allowed m es → Permitted (end_of m es) e → Allowed m (es ++ (e ∷ []))
allowed_then m [] e a p = (p.0, p.1, tt)
allowed_then m (f ∷ es) e a p = (a.0, a.1, allowed_then (step m f) es e a.2 p)

always-end : (m : Machine) (es : List Event) → Always m es → T (end_of m es).on → AtRest (end_of m es)
always-end m [] a = a
always-end m (f ∷ es) a = always-end (step m f) es a.2

always-call : (m : Machine) (es : List Event) (e : Event) → Always m (es ++ (e ∷ [])) → AtCall (end_of m es) e
always-call m [] e a = a.1
always-call m (f ∷ es) e a = always-call (step m f) es e a.2

allowed_next : (m : Machine) (h : History m) (e : Event) → Permitted m e → Allowed (start h.image h.map h.letters h.noise) (h.events ++ (e ∷ []))
allowed_next m h e p = allowed_then _ h.events e h.allowed (subst (λ (n : Machine). Permitted n e) (sym h.here) p)

pub next : (m : Machine) → History m → (e : Event) → Permitted m e → History (step m e)
next m h e p =
    record {
      image = h.image;
      map = h.map;
      letters = h.letters;
      noise = h.noise;
      size = h.size;
      lent = h.lent;
      long = h.long;
      events = h.events ++ (e ∷ []);
      allowed = allowed_next m h e p;
      here = end_then _ h.events e ∙ ap (λ (n : Machine). step n e) h.here;
    }

pub along : (m : Machine) → History m → (es : List Event) → Allowed m es → History (end_of m es)
along m h [] a = h
along m h (e ∷ es) a = along (step m e) (next m h e (a.0, a.1)) es a.2

-- ---- the one theorem, at the end of a list and at a call
pub at_end : (m : Machine) → History m → T m.on → AtRest m
at_end m h =
    subst (λ (n : Machine). T n.on → AtRest n) h.here
    (always-end _ h.events ((guarantee h.image h.map h.letters h.noise h.size h.lent h.long).always h.events h.allowed))

pub at_call : (m : Machine) → History m → (e : Event) → Permitted m e → AtCall m e
at_call m h e p =
    subst (λ (n : Machine). AtCall n e) h.here
    (always-call _ h.events e ((guarantee h.image h.map h.letters h.noise h.size h.lent h.long).always (h.events ++ (e ∷ [])) (allowed_next m h e p)))

-- and the invariants behind it
standing-end : (m : Machine) → Standing m → (es : List Event) → Allowed m es → Standing (end_of m es)
standing-end m st [] a = st
standing-end m st (e ∷ es) a = standing-end (step m e) (call-standing m st e a.0 a.1) es a.2

pub standing : (m : Machine) → History m → Standing m
standing m h =
    subst Standing h.here (standing-end _ (start-standing h.image h.map h.letters h.noise h.size h.lent h.long) h.events h.allowed)

-- ---- mounts, as they follow a call that was cut
abbrev pub Mounting : Event → Type 0
Mounting e = T (is_mount e.call) × T (lent_right e.call)

pub mounting_permitted : (m : Machine) (e : Event) → Mounting e → Permitted m e
mounting_permitted m e p = (go m.on (is_mount e.call) p.0, p.1)
  where
    go : (a b : Bool) → T b → T (a || b)
    go true b t = tt
    go false b t = t

mounts_allowed : (m : Machine) (ms : List Event) → Each Mounting ms → Allowed m ms
mounts_allowed m [] p = tt
mounts_allowed m (e ∷ ms) p = let may = mounting_permitted m e p.0 in (may.0, may.1, mounts_allowed (step m e) ms p.1)

pub remounted : (m : Machine) → History m → (ms : List Event) → Each Mounting ms → History (end_of m ms)
remounted m h ms p = along m h ms (mounts_allowed m ms p)

-- the book takes no note of them
mounting_book : (m : Machine) (e : Event) → T (is_mount e.call) → (step m e).book ≡ m.book
unfolding step entered
mounting_book m e p = go e.call p
  where
    go : (c : Call) → T (is_mount c) → entered m.calls c (fate_of e (outcome_at m e) (left_at m e)) m.book ≡ m.book
    go (mount map letters scratch) t = refl
    go (write file offset given) t = absurd t
    go (read file offset output) t = refl
    go (cut_off file offset) t = absurd t
    go (commit noise) t = absurd t
    go (wipe noise file offset) t = absurd t
    go (gather block) t = absurd t

pub remounted_book : (m : Machine) (ms : List Event) → Each Mounting ms → (end_of m ms).book ≡ m.book
remounted_book m [] p = refl
remounted_book m (e ∷ ms) p = remounted_book (step m e) ms p.1 ∙ mounting_book m e p.0.0
