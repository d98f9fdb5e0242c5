-- The page of a node, programmed up to any byte with the next sequence: what holds whichever node it is, a write's or a gather's copy.
use Prim.Native.Nat.{ℕ, ◌+◌, ◌*◌, ◌-◌, ◌/◌, ◌%◌, ◌<◌, ◌≤◌}
use native.Mathlib.Omega.{arith}
use mathlib.Core.Path.{◌≡◌, sym, ap, subst, ◌∙◌}
use mathlib.Core.Logic.{◌⊎◌, inl, inr}
use mathlib.Core.Bool.{true, ◌&&◌}
use mathlib.Core.List.{List}
use lib.Dec.{leb, ltb}
use lib.ListN.{length}
use borrow.Author.Tests.{le-leb, lt-ltb, eq-eqb}
use Rattle.base.proofs.Choice.{and_intro}
use Rattle.page.specs.Frame.{page_size, header_size, payload_size, closing_at}
use Rattle.page.specs.Plan.{places}
use Rattle.page.specs.Header.{node_letter, in_range, is_event_letter}
use Rattle.page.specs.Page.{page_bytes, payload_of}
use Rattle.page.specs.declared.Frame.{Frame}
use Rattle.page.specs.declared.Form.{Form}
use Rattle.page.specs.declared.Form.TheVariants.{Empty, Whole, Torn}
use Rattle.page.proofs.FormLaws.{cut_form, cut-torn, cut_all}
use Rattle.page.proofs.Pages.{payload_back, page-length, cut-whole}
use Rattle.image.specs.Size.{block_size, pages_in_block}
use Rattle.image.specs.Look.{page_at, form_at}
use Rattle.image.specs.Step.{program, Inside, up_to}
use Rattle.image.proofs.Step.{page-program-up_to}
use Rattle.store.specs.Record.{page_of, live}
use Rattle.store.specs.Find.{new_page_but}
use Rattle.store.specs.Mount.{mounted}
use Rattle.std.specs.Prelude.{Option, Some}
use Rattle.store.proofs.Fits.{fits_is}
use Rattle.store.proofs.Views.{keys_at}
use Rattle.store.proofs.Quiets.{Mountable, keys_aside, quiet_still}
use Rattle.store.proofs.Appends.{Appended}
use Rattle.store.proofs.Copies.{live-whole}
use Rattle.store.proofs.NewPages.{ins, page_appended, header_cut_quiet}
use Rattle.guarantee.specs.Book.{Book}
use Rattle.guarantee.specs.Origin.{Origin, plain, cipher, byte_origin, trace_up_to}
use Rattle.guarantee.proofs.Sounds.{Roomy, Sound, Tight}
use Rattle.guarantee.proofs.Room.{append_roomy}
use Rattle.guarantee.proofs.Origins.{page-origin, node-origin, program-origin}
use Rattle.guarantee.proofs.Steps.{SameKeys, sound_tight}
use Rattle.guarantee.proofs.StepBytes.{origin_programmed, origin_unprogrammed}
use Rattle.guarantee.proofs.Accounts.{Accounted, sealed_spelt, node_sealed, step-accounted}
use Rattle.guarantee.proofs.Anchors.{Lives, sound_lives, anchored_still}

-- the chosen key blocks stay where a page was appended elsewhere
pub append-keys : (img img' : List ℕ) (g : ℕ) (m : Form) → Mountable img → Appended img img' g m → SameKeys img img'
append-keys img img' g m ok a =
    record {
      place = λ q h. let e = keys_aside img img' (g / pages_in_block) ok a.aside q h in rw e;
      bytes = λ q h. a.aside.only.others (keys_at img q) (a.aside.unchosen.no_keys q h);
    }

-- and so do the origins of live pages and of chosen key blocks
module _ (img img' : List ℕ) (at : ℕ) (m : Form) (ok : Mountable img) (app : Appended img img' at m) (of : List ℕ → ℕ → Origin) (k : ℕ) (page : List ℕ)
    (o : ℕ → Origin) where
  pub append-pages : (y : ℕ) → y < places → live (mounted img).map y ≡ true → (a : ℕ) → a / page_size ≡ page_of (mounted img).map y
      → trace_up_to of k (program at page) o a ≡ o a
  append-pages y h l a e = origin_unprogrammed of k o a at page (λ z.
      let w = (live-whole img ok y h l).1 in
      let v : form_at img (page_of (mounted img).map y) ≡ Empty = subst (λ (j : ℕ). form_at img j ≡ Empty) (sym z ∙ e) app.before in
      let t : ◌≡◌ {A = ℕ} 0 1 = cc in omega arith)

  pub append_slots : (q : ℕ) → q < 2 → (a : ℕ) → a / block_size ≡ keys_at img q → trace_up_to of k (program at page) o a ≡ o a
  append_slots q h a e = origin_unprogrammed of k o a at page (λ z. app.aside.unchosen.no_keys q h (omega arith))

-- ---- a node's header and its enciphered payload, for the page that a search found
pub record Put (but : Option ℕ) (img : List ℕ) (g : ℕ) (f : Frame) (sealed : List ℕ) : Type 0 where
  pub found : new_page_but but img (mounted img).numbers ≡ Some g
  pub ranges : in_range f ≡ true
  pub full : length sealed ≡ payload_size
  pub node : f.kind ≡ node_letter

module _ (but : Option ℕ) (img : List ℕ) (b : Book) (o : ℕ → Origin) (noise : ℕ → List ℕ) (t : ℕ) (s : Sound img b o noise t t) (tight : Tight img b o) (g : ℕ)
    (f : Frame) (sealed : List ℕ) (put : Put but img g f sealed)
    (new : ℕ → ℕ) where
  ok : Mountable img
  ok = s.mountable

  abbrev p : ℕ
  p = f.key

  pub event : is_event_letter f.kind ≡ true
  event = rw put.node

  lives : Lives img b
  lives = sound_lives img b o noise t t s

  abbrev of : List ℕ → ℕ → Origin
  of = byte_origin b.bringer new

  -- ---- up to byte k
  module _ (k : ℕ) where
    abbrev pub image : List ℕ
    image = up_to k (program g (page_bytes f sealed)) img

    abbrev pub origin : ℕ → Origin
    origin = trace_up_to of k (program g (page_bytes f sealed)) o

    pub appended : Appended img image g (cut_form k f)
    appended = page_appended but img (mounted img).numbers g f sealed ok put.found put.ranges put.full event k

    -- the bytes really written: those of the payload are under the position's key
    pub origins : (a : ℕ) → (origin a ≡ plain) ⊎ (origin a ≡ o a) ⊎ ((origin a ≡ cipher p (b.bringer p)) × (header_size < k))
    origins a = go (program-origin (byte_origin b.bringer new) k g (page_bytes f sealed) o a)
      where
        go : {y : Origin}
            → (y ≡ o a) ⊎ ((g * page_size ≤ a) × (a < g * page_size + page_size) × (a - g * page_size < k)
            × (y ≡ byte_origin b.bringer new (page_bytes f sealed) (a - g * page_size)))
            → (y ≡ plain) ⊎ (y ≡ o a) ⊎ ((y ≡ cipher p (b.bringer p)) × (header_size < k))
        go (inl q) = inr (inl q)
        go {y} (inr q) = byte (node-origin b.bringer new f sealed put.ranges put.full (a - g * page_size) put.node)
          where
            byte : (byte_origin b.bringer new (page_bytes f sealed) (a - g * page_size) ≡ plain)
                ⊎ ((header_size ≤ a - g * page_size) × (byte_origin b.bringer new (page_bytes f sealed) (a - g * page_size) ≡ cipher p (b.bringer p)))
                → (y ≡ plain) ⊎ (y ≡ o a) ⊎ ((y ≡ cipher p (b.bringer p)) × (header_size < k))
            byte (inl v) = inl (q.3 ∙ v)
            byte (inr v) = inr (inr (q.3 ∙ v.1, omega (arith, q.2)))

    pub pages : (y : ℕ) → y < places → live (mounted img).map y ≡ true → (a : ℕ) → a / page_size ≡ page_of (mounted img).map y → origin a ≡ o a
    pages = append-pages img image g (cut_form k f) ok appended of k (page_bytes f sealed) o

    pub slots : (q : ℕ) → q < 2 → (a : ℕ) → a / block_size ≡ keys_at img q → origin a ≡ o a
    slots = append_slots img image g (cut_form k f) ok appended of k (page_bytes f sealed) o

    pub inside : Inside (length img) (program g (page_bytes f sealed))
    inside = ins but img (mounted img).numbers g f sealed ok put.found put.ranges put.full event k

    pub accounts : Accounted image origin
    accounts = step-accounted of k (program g (page_bytes f sealed)) img o inside
        (sealed_spelt b.bringer new f sealed put.ranges put.full (rw put.node tt) (node_sealed b.bringer new f put.node))
        s.anchored.accounted

    pub room : Roomy image
    room = append_roomy but img (mounted img) g ok (fits_is img (mounted img) ok.fit) put.found image (cut_form k f) appended s.roomy

    -- ---- cut within the header: nothing
    less : k < header_size → (a : ℕ) → (origin a ≡ plain) ⊎ (origin a ≡ o a)
    less h a = go (origins a)
      where
        go : (origin a ≡ plain) ⊎ (origin a ≡ o a) ⊎ ((origin a ≡ cipher p (b.bringer p)) × (header_size < k)) → (origin a ≡ plain) ⊎ (origin a ≡ o a)
        go (inl e) = inl e
        go (inr (inl e)) = inr e
        go (inr (inr e)) = absurd (omega arith)

    pub unheaded_sound : k < header_size → Sound image b origin noise t t
    unheaded_sound h =
        let still = quiet_still img image (g / pages_in_block) ok (header_cut_quiet but img (mounted img).numbers g f sealed ok put.found put.ranges
        put.full event k h) in
        sound_tight img image b o origin noise t t s still (less h) tight
        (anchored_still img image b o origin ok lives s.anchored still pages slots accounts) room

    -- ---- torn, whole
    pub torn_appended : header_size ≤ k → k < page_size → Appended img image g (Torn f)
    torn_appended h l = subst (Appended img image g) (cut-torn k f h l) appended

    pub whole_appended : page_size ≤ k → Appended img image g (Whole f)
    whole_appended h = subst (Appended img image g) (cut_all k f h) appended

    module _ (h : page_size ≤ k) where
      pub page-here : payload_of (page_at image g) ≡ sealed
      page-here =
          ap payload_of (page-program-up_to k g (page_bytes f sealed) img inside ∙ cut-whole k (page_bytes f sealed) (page-length f sealed put.full) h)
          ∙ payload_back f sealed put.full

      -- the payload's bytes are under the position's key
      pub node_under : (j : ℕ) → j < payload_size → origin (g * page_size + header_size + j) ≡ cipher p (b.bringer p)
      node_under j l =
          let a = g * page_size + header_size + j in
          let i : a % page_size ≡ header_size + j = omega arith in
          let v : leb header_size (header_size + j) && ltb (header_size + j) closing_at ≡ true = and_intro _ _
          (le-leb header_size (header_size + j) (omega arith)) (lt-ltb (header_size + j) closing_at (omega arith)) in
          origin_programmed of k o a g (page_bytes f sealed) (omega arith) (omega arith)
          ∙ ap (λ (i : ℕ). of (page_bytes f sealed) i) i
          ∙ page-origin b.bringer new f sealed put.ranges put.full (header_size + j)
          ∙ rw (v, eq-eqb _ _ put.node)
