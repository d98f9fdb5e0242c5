-- One copy of a gather, cut at any byte: the invariant holds with the same book.
use Prim.Native.Nat.{ℕ, ◌+◌, ◌/◌, ◌<◌, ◌≤◌}
use native.Mathlib.Omega.{arith}
use native.Mathlib.Decide.{ℕ_discrete, dec_lt}
use mathlib.Core.Path.{◌≡◌, refl, sym, ap, subst, ◌∙◌}
use mathlib.Core.Logic.{◌⊎◌, inl, inr}
use mathlib.Core.Bool.{true, false}
use mathlib.Core.List.{List, ◌∷◌}
use mathlib.Core.Option.{Option, none, some}
use lib.Seq.{get_or-set_same, get_or-set_other}
use borrow.Author.Tests.{lt-ltb}
use Rattle.base.proofs.Choice.{true-false}
use Rattle.page.specs.Frame.{page_size, header_size}
use Rattle.page.specs.Plan.{file_plan, places, place_of}
use Rattle.page.specs.Key.{positions}
use Rattle.page.specs.Entry.{none as vacant, free_letter, used_letter}
use Rattle.page.specs.Form.{second_of, form_of}
use Rattle.page.specs.Page.{page_bytes, deciphered}
use Rattle.page.specs.declared.Frame.{Frame}
use Rattle.page.specs.declared.Form.TheVariants.{Whole, Torn}
use Rattle.std.specs.Prelude.{Some}
use Rattle.page.proofs.FormLaws.{cut_form}
use Rattle.image.specs.Size.{block_size, pages_in_block}
use Rattle.image.specs.Look.{page_at, form_at}
use Rattle.image.specs.Step.{Step, program, whole, up_to}
use Rattle.image.proofs.Step.{program-up_to-whole}
use Rattle.image.proofs.Looks.{sized}
use Rattle.page.proofs.Pages.{deciphered-same, page-length}
use Rattle.store.specs.Record.{with_numbers, page_of, key_of, live}
use Rattle.store.specs.Find.{found_at}
use Rattle.store.specs.Mount.{mounted, mount_map}
use Rattle.store.specs.Write.{next_sequence}
use Rattle.store.specs.Gather.{place_on, copy_to, copy_step, moved, copied}
use Rattle.store.proofs.Fits.{Fit, fits_is, Named, live_named, live-key, live_used}
use Rattle.store.proofs.Outcomes.{mounted-full}
use Rattle.store.proofs.Views.{commit_at, covered_now, mounted-map}
use Rattle.store.proofs.Quiets.{Mountable, commit_aside, covered_aside}
use Rattle.store.proofs.Appends.{Appended}
use Rattle.store.proofs.Nodes.{mounted-node, node_mountable, mountable_apart, live-page-append}
use Rattle.store.proofs.TornPages.{mounted_torn_copy, torn_mountable}
use Rattle.store.proofs.Gathers.{Copying, live-place, header, payload, payload-length, header_range, copy_found, copy_is, placed-moved}
use Rattle.guarantee.specs.Book.{Book, Holding}
use Rattle.guarantee.specs.Origin.{Origin, plain, cipher, byte_origin, trace_up_to}
use Rattle.guarantee.specs.Statement.{UnderKey}
use Rattle.guarantee.proofs.Sounds.{Holds, SomeEmpty, Sound, Tight}
use Rattle.guarantee.proofs.Room.{append-some}
use Rattle.guarantee.proofs.Steps.{Written, written_sound, written_tight}
use Rattle.guarantee.proofs.Anchors.{Lives, sound_lives, under_same, changed_anchored}
use Rattle.guarantee.proofs.NodePages as N
use Rattle.guarantee.proofs.NodePages.{Put}

module _ (block g : ℕ) (gs img : List ℕ) (b : Book) (o : ℕ → Origin) (noise : ℕ → List ℕ) (t : ℕ) (s : Sound img b o noise t t) (tight : Tight img b o)
    (c : Copying block (g ∷ gs) img (mounted img)) (new : ℕ → ℕ) where
  ok : Mountable img
  ok = s.mountable

  fit : Fit img (mounted img)
  fit = fits_is img (mounted img) ok.fit

  abbrev m : List ℕ
  m = (mounted img).map

  abbrev x : ℕ
  x = place_on m g

  abbrev to : ℕ
  to = found_at (copy_to block img (mounted img).numbers)

  abbrev f : Frame
  f = header block g gs img (mounted img) c

  abbrev sealed : List ℕ
  sealed = payload block g gs img (mounted img) c

  here : (x < places) × (live m x ≡ true) × (page_of m x ≡ g)
  here = live-place m g c.lives.0.live

  -- the page's header is the one that the map's place names
  named : Named img m x
  named = live_named img (mounted img) fit x here.0 here.1

  same-header : named.header ≡ c.lives.0.header
  same-header =
      let q : Whole named.header ≡ Whole c.lives.0.header = sym named.whole ∙ rw here.2 c.lives.0.whole in
      cc

  key_is : f.key ≡ key_of m x
  key_is = ap (λ (h : Frame). h.key) (sym same-header) ∙ named.key

  place_is : place_of file_plan f.unit f.part ≡ Some x
  place_is = ap (λ (h : Frame). place_of file_plan h.unit h.part) (sym same-header) ∙ named.place

  below : f.key < positions
  below = rw key_is (live-key img (mounted img) fit x here.0 here.1)

  alone : (y : ℕ) → y < places → (x ≡ y → ⊥) → key_of (mount_map img (commit_at img)) y ≡ f.key → ⊥
  alone y h n e =
      let k : key_of (mount_map img (commit_at img)) x ≡ f.key = ap (λ (q : List ℕ). key_of q x) (sym (mounted-map img)) ∙ sym key_is in
      n (mountable_apart img ok x y here.0 h (k ∙ sym e) (rw k below))

  marked : b.mark f.key ≡ used_letter
  marked = sym (s.marks f.key below) ∙ rw key_is (live_used img (mounted img) fit x here.0 here.1)

  lives : Lives img b
  lives = sound_lives img b o noise t t s

  put : Put (Some block) img to f sealed
  put =
      record {
        found = copy_found block g gs img (mounted img) c;
        ranges = header_range block g gs img (mounted img) c;
        full = payload-length block g gs img (mounted img) c;
        node = c.lives.0.node;
      }

  -- ---- up to byte k
  module _ (k : ℕ) where
    abbrev image : List ℕ
    image = N.image (Some block) img b o noise t s tight to f sealed put new k

    abbrev origin : ℕ → Origin
    origin = N.origin (Some block) img b o noise t s tight to f sealed put new k

    origins : (a : ℕ) → (origin a ≡ plain) ⊎ (origin a ≡ o a) ⊎ ((origin a ≡ cipher f.key (b.bringer f.key)) × (b.mark f.key ≡ free_letter → ⊥))
    origins a = go (N.origins (Some block) img b o noise t s tight to f sealed put new k a)
      where
        go : (origin a ≡ plain) ⊎ (origin a ≡ o a) ⊎ ((origin a ≡ cipher f.key (b.bringer f.key)) × (header_size < k))
            → (origin a ≡ plain) ⊎ (origin a ≡ o a) ⊎ ((origin a ≡ cipher f.key (b.bringer f.key)) × (b.mark f.key ≡ free_letter → ⊥))
        go (inl e) = inl e
        go (inr (inl e)) = inr (inl e)
        go (inr (inr e)) = inr (inr (e.0, λ z. omega (arith, marked)))

    pages : (y : ℕ) → y < places → live m y ≡ true → (a : ℕ) → a / page_size ≡ page_of m y → origin a ≡ o a
    pages = N.pages (Some block) img b o noise t s tight to f sealed put new k

    -- ---- torn: mount sees the sequence, and no more
    module _ (h : header_size ≤ k) (l : k < page_size) where
      torn : Appended img image to (Torn f)
      torn = N.torn_appended (Some block) img b o noise t s tight to f sealed put new k h l

      torn_ok : Mountable image
      torn_ok = torn_mountable img image to f ok torn refl (N.event (Some block) img b o noise t s tight to f sealed put new)

      torn_record : mounted image ≡ with_numbers (mounted img) (next_sequence (mounted img).numbers)
      torn_record =
          mounted_torn_copy img image to f ok torn refl (N.event (Some block) img b o noise t s tight to f sealed put new)
          x c.lives.0.node here.0 (ap (λ (q : List ℕ). key_of q x) (sym (mounted-map img)) ∙ sym key_is)

      torn-content : (y : ℕ) → y < places → (v : Option Holding) → Holds img noise b.bringer y v → Holds image noise b.bringer y v
      torn-content y i none e = rw torn_record e
      torn-content y i (some v) e = rw torn_record (e.0, e.1, ap (deciphered _) (live-page-append img image to (Torn f) ok torn y i e.0) ∙ e.2)

      torn_written : Written img image b b o origin noise f.key
      torn_written =
          record {
            mountable = torn_ok;
            keys = N.append-keys img image to (Torn f) ok torn;
            bringers = λ j. refl;
            content = λ y i. torn-content y i (b.content y) (s.content y i);
            marks = λ j i. rw torn_record (s.marks j i);
            still_free = λ j e. e;
            origins = origins;
            anchored =
                changed_anchored img image b b o origin ok s.anchored (N.append-keys img image to (Torn f) ok torn) (λ j. refl)
                (λ y i. rw torn_record (under_same m m o origin b.bringer b.bringer y (b.content y) (λ v e. (refl, refl, pages y i (lives y i v e)))
                (s.anchored.ciphered y i)))
                (N.slots (Some block) img b o noise t s tight to f sealed put new k)
                (N.accounts (Some block) img b o noise t s tight to f sealed put new k);
            roomy = N.room (Some block) img b o noise t s tight to f sealed put new k;
          }

    -- ---- whole: the place has the new page
    module _ (h : page_size ≤ k) where
      app : Appended img image to (Whole f)
      app = N.whole_appended (Some block) img b o noise t s tight to f sealed put new k h

      whole_ok : Mountable image
      whole_ok = node_mountable img image to f x f.key ok app refl c.lives.0.node place_is refl here.0 below alone

      whole_record : mounted image ≡ moved (mounted img) x to
      whole_record =
          mounted-node img image to f x f.key ok app refl c.lives.0.node place_is refl here.0 below alone
          ∙ rw key_is (placed-moved img (mounted img) x to fit (mounted-full img) here.0 here.1)

      page_new : page_of (moved (mounted img) x to).map x ≡ to
      page_new = get_or-set_same m x to vacant (omega (arith, here.0, (mounted-full img).map_full))

      page_old : (y : ℕ) → (x ≡ y → ⊥) → page_of (moved (mounted img) x to).map y ≡ page_of m y
      page_old y n = get_or-set_other m x y to vacant (λ q. n (sym q))

      key-same : (y : ℕ) → key_of (moved (mounted img) x to).map y ≡ key_of m y
      key-same y = get_or-set_other m x (places + y) to vacant (λ q. omega (arith, here.0))

      -- the copy deciphers as its page does
      same-deciphered : (key : List ℕ) → deciphered key (page_at image to) ≡ deciphered key (page_at img g)
      unfolding form_at
      same-deciphered key =
          let there : form_of (page_at image to) ≡ Whole f = app.after in
          let first : form_of (page_at img g) ≡ Whole c.lives.0.header = c.lives.0.whole in
          deciphered-same key (page_at image to) (page_at img g) (ap second_of there ∙ sym (ap second_of first))
          (N.page-here (Some block) img b o noise t s tight to f sealed put new k h)

      content_new : (v : Option Holding) → Holds img noise b.bringer x v → Holds image noise b.bringer x v
      content_new none e = absurd (let z : live m x ≡ false = rw e.0 in true-false here.1 z)
      content_new (some v) e =
          let z = sized img ok.size in
          rw whole_record (
            rw page_new (lt-ltb to vacant (omega (arith, app.inside, z.paged, z.most))),
            key-same x ∙ e.1,
            rw page_new (same-deciphered _ ∙ ap (deciphered _) (ap (page_at img) (sym here.2)) ∙ e.2),
          )

      content_old : (y : ℕ) → y < places → (x ≡ y → ⊥) → (v : Option Holding) → Holds img noise b.bringer y v → Holds image noise b.bringer y v
      content_old y i n none e = rw whole_record (page_old y n ∙ e.0, key-same y ∙ e.1)
      content_old y i n (some v) e =
          rw whole_record (
            rw (page_old y n) e.0,
            key-same y ∙ e.1,
            rw (page_old y n) (ap (deciphered _) (live-page-append img image to (Whole f) ok app y i e.0) ∙ e.2),
          )

      whole-content : (y : ℕ) → y < places → Holds image noise b.bringer y (b.content y)
      whole-content y i = elim (ℕ_discrete x y) [
        | yes e ↦ subst (λ (y : ℕ). Holds image noise b.bringer y (b.content y)) e (content_new (b.content x) (s.content x here.0))
        | no e ↦ content_old y i e (b.content y) (s.content y i)
      ]

      under_new : (v : Option Holding) → Holds img noise b.bringer x v → UnderKey (mounted image).map origin b.bringer x v
      under_new none e = tt
      under_new (some v) e = λ j l.
          let q : f.key ≡ v.position = key_is ∙ e.1 in
          rw (whole_record, page_new, ← q) (N.node_under (Some block) img b o noise t s tight to f sealed put new k h j l)

      under_old : (y : ℕ) → y < places → (x ≡ y → ⊥) → UnderKey (mounted image).map origin b.bringer y (b.content y)
      under_old y i n =
          rw whole_record
          (under_same m (moved (mounted img) x to).map o origin b.bringer b.bringer y (b.content y)
          (λ v e. (page_old y n, refl, pages y i (lives y i v e))) (s.anchored.ciphered y i))

      whole_written : Written img image b b o origin noise f.key
      whole_written =
          record {
            mountable = whole_ok;
            keys = N.append-keys img image to (Whole f) ok app;
            bringers = λ j. refl;
            content = whole-content;
            marks = λ j i. rw whole_record (s.marks j i);
            still_free = λ j e. e;
            origins = origins;
            anchored =
                changed_anchored img image b b o origin ok s.anchored (N.append-keys img image to (Whole f) ok app) (λ j. refl)
                (λ y i. elim (ℕ_discrete x y) [
                  | yes e ↦ subst (λ (y : ℕ). UnderKey (mounted image).map origin b.bringer y (b.content y)) e
                      (under_new (b.content x) (s.content x here.0))
                  | no e ↦ under_old y i e
                ])
                (N.slots (Some block) img b o noise t s tight to f sealed put new k)
                (N.accounts (Some block) img b o noise t s tight to f sealed put new k);
            roomy = N.room (Some block) img b o noise t s tight to f sealed put new k;
          }

    -- ---- at every byte
    copy_sound : Sound image b origin noise t t
    copy_sound = elim (dec_lt k header_size) [
      | yes h ↦ N.unheaded_sound (Some block) img b o noise t s tight to f sealed put new k h
      | no h ↦ elim (dec_lt k page_size) [
        | yes l ↦ written_sound img image b b o origin noise f.key t s tight (torn_written (omega arith) l)
        | no l ↦ written_sound img image b b o origin noise f.key t s tight (whole_written (omega arith))
      ]
    ]

  -- ---- the whole step
  step_is : copy_step block img (mounted img) g ≡ program to (page_bytes f sealed)
  step_is = copy_is block g gs img (mounted img) c

  whole-step : up_to block_size (program to (page_bytes f sealed)) img ≡ whole (program to (page_bytes f sealed)) img
  whole-step = program-up_to-whole block_size to (page_bytes f sealed) img (page-length f sealed (payload-length block g gs img (mounted img) c)) (omega arith)

  abbrev pub of : List ℕ → ℕ → Origin
  of = byte_origin b.bringer new

  -- cut at byte k
  pub step_cut : (k : ℕ) → Sound (up_to k (copy_step block img (mounted img) g) img) b (trace_up_to of k (copy_step block img (mounted img) g) o) noise t t
  step_cut k = rw step_is (copy_sound k)

  -- done: invariant, record and an empty block for the next
  abbrev pub image' : List ℕ
  image' = whole (copy_step block img (mounted img) g) img

  abbrev pub origin' : ℕ → Origin
  origin' = trace_up_to of block_size (copy_step block img (mounted img) g) o

  image_is : image block_size ≡ image'
  image_is = whole-step ∙ ap (λ (d : Step). whole d img) (sym step_is)

  origin_is : origin block_size ≡ origin'
  origin_is = ap (λ (d : Step). trace_up_to of block_size d o) (sym step_is)

  pub step_sound : Sound image' b origin' noise t t
  step_sound =
      subst (λ (i : List ℕ). Sound i b origin' noise t t) image_is (subst (λ (p : ℕ → Origin). Sound (image block_size) b p noise t t) origin_is
      (copy_sound block_size))

  pub step_tight : Tight image' b origin'
  step_tight =
      subst (λ (i : List ℕ). Tight i b origin') image_is (subst (λ (p : ℕ → Origin). Tight (image block_size) b p) origin_is
      (written_tight img (image block_size) b b o (origin block_size) noise f.key t s tight (whole_written block_size (omega arith))))

  pub step_record : copied block img (mounted img) g ≡ mounted image'
  unfolding copied
  step_record = sym (ap mounted (sym image_is) ∙ whole_record block_size (omega arith))

  -- the commit stays, and what it covers
  pub step_covered : covered_now image' ≡ covered_now img
  step_covered =
      let a = (N.appended (Some block) img b o noise t s tight to f sealed put new block_size).aside in
      let e = commit_aside img (image block_size) (to / pages_in_block) ok a in
      subst (λ (i : List ℕ). covered_now i ≡ covered_now img) image_is (rw e (covered_aside img (image block_size) (to / pages_in_block) ok a))

  pub step-some : SomeEmpty img → SomeEmpty image'
  step-some e =
      subst SomeEmpty image_is (append-some (Some block) img (mounted img) to ok fit put.found (image block_size) (cut_form block_size f)
      (N.appended (Some block) img b o noise t s tight to f sealed put new block_size) e)
