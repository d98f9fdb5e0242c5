-- A page of a settled block on which something is under a key has a first byte that is not FFh: so no empty page of such a block has anything on it.
-- Kept by every step of the flash, cut anywhere, that programs no unsettled block.
use Prim.Native.Nat.{ℕ, zero, suc, ◌+◌, ◌*◌, ◌/◌, ◌%◌, ◌≤◌}
use native.Mathlib.Omega.{arith}
use native.Mathlib.Decide.{ℕ_discrete, dec_lt}
use mathlib.Core.Path.{◌≡◌, sym, ap, subst, ◌∙◌}
use mathlib.Core.Bool.{Bool, true, false}
use mathlib.Core.List.{List, [], ◌∷◌}
use lib.Dec.{T}
use lib.ListN.{length, get_or}
use borrow.Author.Tests.{eq-eqb, ne_eqb}
use Rattle.base.proofs.Choice.{true-false}
use Rattle.base.proofs.Parts.{part_at}
use Rattle.page.specs.Frame.{page_size, erased}
use Rattle.page.proofs.Slices.{get_d_there}
use Rattle.image.specs.Size.{size_right, block_size, pages_in_block}
use Rattle.image.specs.Look.{page_at, page_empty}
use Rattle.image.specs.Step.{Step, program, erase, Legal, AllLegal, up_to, whole, play}
use Rattle.image.proofs.Empties.{empty_page}
use Rattle.image.proofs.Plays.{play_all_lem}
use Rattle.image.proofs.Step.{up_to-whole}
use Rattle.store.specs.Outcome.{Outcome, left, left_whole}
use Rattle.store.specs.Format.{noise_size, buffers_right, format_steps}
use Rattle.store.proofs.LegalSteps.{legal_inside}
use Rattle.store.proofs.Legals.{format_legal}
use Rattle.guarantee.specs.Call.{Event}
use Rattle.guarantee.specs.Book.{first_book}
use Rattle.guarantee.specs.Origin.{Origin, plain, cipher, bringer_in, byte_origin, trace_up_to, trace}
use Rattle.guarantee.specs.Unsettled.{any_block, after_whole, after_cut, unsettled_after, OnSettled, AllOnSettled}
use Rattle.guarantee.specs.Machine.{Machine, start, outcome_at, step, Allowed}
use Rattle.guarantee.proofs.StepBytes.{byte_programmed, byte_unprogrammed, byte-elsewhere}
use Rattle.guarantee.proofs.StepBytes.{origin_programmed, origin_unreached, origin_unprogrammed, origin-erased, origin-elsewhere}
use Rattle.guarantee.proofs.NodelessSteps.{nodeless_byte}
use Rattle.guarantee.proofs.FormatCall.{format_taken_lem, format_on_settled_lem}
use Rattle.guarantee.proofs.Histories.{History, Permitted, end_of, history, next, at_call}

abbrev pub Begun : List ℕ → (ℕ → Origin) → (ℕ → Bool) → Type 0
Begun img o u = (a p c : ℕ) → o a ≡ cipher p c → u (a / block_size) ≡ false → get_or img (a / page_size * page_size) erased ≡ erased → ⊥

-- where nothing is under a key
pub none-begun : (img : List ℕ) (u : ℕ → Bool) → Begun img (λ a. plain) u
none-begun img u a p c e = absurd (let y : ◌≡◌ {A = ℕ} 0 1 = cc in omega arith)

-- steps done whole keep it, if their bytes have these origins
abbrev pub KeepsBegun : (List ℕ → ℕ → Origin) → Type 0
KeepsBegun of = (d : Step) (img : List ℕ) (o : ℕ → Origin) (u : ℕ → Bool) → Legal img d → OnSettled u d → Begun img o u
    → Begun (whole d img) (trace_up_to of block_size d o) (after_whole d u)

-- the first byte of an empty page
pub empty_first : (img : List ℕ) (g : ℕ) → g * page_size + page_size ≤ length img → page_empty img g ≡ true → get_or img (g * page_size) erased ≡ erased
unfolding page_at
empty_first img g inside e =
    let at = part_at img (g * page_size) page_size 0 erased (omega arith) in
    ap (λ (i : ℕ). get_or img i erased) (omega arith) ∙ sym at ∙ ap (λ (xs : List ℕ). get_or xs 0 erased) (empty_page img g inside e)

module _ (now new : ℕ → ℕ) where
  abbrev of : List ℕ → ℕ → Origin
  of = byte_origin now new

  -- ---- one step, cut anywhere
  program-begun : (k g : ℕ) (page img : List ℕ) (o : ℕ → Origin) (u : ℕ → Bool) → Legal img (program g page) → u (g / pages_in_block) ≡ false → Begun img o u
      → Begun (up_to k (program g page) img) (trace_up_to of k (program g page) o) u
  program-begun k g page img o u legal on begun a p c e settled blank = elim (ℕ_discrete (a / page_size) g) [
    | yes z ↦ elim (dec_lt (a % page_size) k) [
      | yes l ↦
          let first = byte_programmed k g page img legal.0 (a / page_size * page_size) erased (omega arith) (omega arith) in
          let zeroth : a / page_size * page_size % page_size ≡ 0 = omega arith in
          let letter : get_or page 0 0 ≡ erased = get_d_there page 0 0 erased (omega (arith, legal.0.1)) ∙ ap (λ (i : ℕ). get_or page i erased) (sym zeroth)
          ∙ sym first ∙ blank in
          nodeless_byte now new page (a % page_size) p c (λ n. omega (arith, letter, n))
          (sym (origin_programmed of k o a g page z l) ∙ e)
      | no l ↦
          begun a p c (sym (origin_unreached of k o a g page z (omega arith)) ∙ e) settled
          (ap (λ (h : ℕ). get_or img (h * page_size) erased) z ∙ empty_first img g legal.0.0 legal.1)
    ]
    | no z ↦
        begun a p c (sym (origin_unprogrammed of k o a g page z) ∙ e) settled
        (sym (byte_unprogrammed k g page img legal.0 (a / page_size * page_size) erased (λ q. z (omega arith))) ∙ blank)
  ]

  other_begun : (k b : ℕ) (img : List ℕ) (o : ℕ → Origin) (u : ℕ → Bool) → Legal img (erase b) → Begun img o u
      → (a p c : ℕ) → (a / block_size ≡ b → ⊥) → trace_up_to of k (erase b) o a ≡ cipher p c → u (a / block_size) ≡ false
      → get_or (up_to k (erase b) img) (a / page_size * page_size) erased ≡ erased → ⊥
  other_begun k b img o u legal begun a p c z e settled blank =
      begun a p c (sym (origin-elsewhere of k o a b z) ∙ e) settled
      (sym (byte-elsewhere k b img legal (a / page_size * page_size) erased (λ q. z (omega arith))) ∙ blank)

  pub cut-begun : (k : ℕ) (d : Step) (img : List ℕ) (o : ℕ → Origin) (u : ℕ → Bool) → Legal img d → OnSettled u d → Begun img o u
      → Begun (up_to k d img) (trace_up_to of k d o) (after_cut d u)
  cut-begun k (program g page) img o u legal on begun a p c e settled = program-begun k g page img o u legal on begun a p c e settled
  cut-begun k (erase b) img o u legal on begun a p c e settled = elim (ℕ_discrete (a / block_size) b) [
    | yes z ↦ absurd (true-false (rw (eq-eqb (a / block_size) b z)) settled)
    | no z ↦ other_begun k b img o u legal begun a p c z e (rw (ne_eqb (a / block_size) b z) at settled)
  ]

  pub whole-begun : KeepsBegun of
  whole-begun d img o u legal on begun =
      subst (λ (i : List ℕ). Begun i (trace_up_to of block_size d o) (after_whole d u))
      (up_to-whole block_size (length img) d img (legal_inside img d legal) (omega arith)) (go d legal on)
    where
      go : (d : Step) → Legal img d → OnSettled u d → Begun (up_to block_size d img) (trace_up_to of block_size d o) (after_whole d u)
      go (program g page) legal on a p c e settled = program-begun block_size g page img o u legal on begun a p c e settled
      go (erase b) legal on a p c e settled = elim (ℕ_discrete (a / block_size) b) [
        | yes z ↦ absurd (let w = origin-erased of block_size o a b z (omega arith) in let y : ◌≡◌ {A = ℕ} 0 1 = cc in omega arith)
        | no z ↦ other_begun block_size b img o u legal begun a p c z e (rw (ne_eqb (a / block_size) b z) at settled)
      ]

  -- ---- steps in a row, at a cut and at their end
  pub play-begun : (n k : ℕ) (ds : List Step) (img : List ℕ) (o : ℕ → Origin) (u : ℕ → Bool) → AllLegal img ds → AllOnSettled u ds → Begun img o u
      → Begun (play n k ds img) (trace of n k ds o) (unsettled_after n ds u)
  unfolding play trace unsettled_after
  play-begun n k [] img o u legal on begun = begun
  play-begun zero k (d ∷ ds) img o u legal on begun = cut-begun k d img o u legal.0 on.0 begun
  play-begun (suc n) k (d ∷ ds) img o u legal on begun =
      play-begun n k ds (whole d img) (trace_up_to of block_size d o) (after_whole d u) legal.1 on.1 (whole-begun d img o u legal.0 on.0 begun)

-- ---- at the end of every list
abbrev BegunAt : Machine → Type 0
BegunAt m = Begun m.image m.origin m.unsettled

begun-step : (m : Machine) (h : History m) → BegunAt m → (e : Event) → Permitted m e → BegunAt (step m e)
unfolding step left
begun-step m h begun e may =
    play-begun m.book.bringer (bringer_in m.calls e.call m.book) e.n e.k (outcome_at m e).steps m.image m.origin m.unsettled
    (at_call m h e may).legal (at_call m h e may).on_settled begun

along_begun : (m : Machine) (h : History m) → BegunAt m → (es : List Event) → Allowed m es → BegunAt (end_of m es)
along_begun m h begun [] a = begun
along_begun m h begun (e ∷ es) a = along_begun (step m e) (next m h e (a.0, a.1)) (begun-step m h begun e (a.0, a.1)) es a.2

start-begun : (img map letters noise : List ℕ) → T (size_right img) → T (buffers_right map letters) → length noise ≡ noise_size
    → BegunAt (start img map letters noise)
unfolding start left_whole
start-begun img map letters noise size lent long =
    let steps = format_steps img noise in
    let taken = format_taken_lem img map letters noise size lent long in
    let legal : AllLegal img steps = subst (λ (o : Outcome). AllLegal img o.steps) taken (format_legal img map letters noise) in
    let o = trace (byte_origin first_book.bringer first_book.bringer) (length steps) 0 steps (λ a. plain) in
    let u = unsettled_after (length steps) steps (any_block img) in
    rw taken (subst (λ (i : List ℕ). Begun i o u) (play_all_lem (length steps) 0 steps img (omega arith))
    (play-begun first_book.bringer first_book.bringer (length steps) 0 steps img (λ a. plain) (any_block img) legal (format_on_settled_lem img noise)
    (none-begun img (any_block img))))

pub begun-end : (m : Machine) → History m → BegunAt m
begun-end m h =
    subst BegunAt h.here
    (along_begun _ (history h.image h.map h.letters h.noise h.size h.lent h.long [] tt)
    (start-begun h.image h.map h.letters h.noise h.size h.lent h.long) h.events h.allowed)
