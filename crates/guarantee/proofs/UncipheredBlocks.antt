-- After a finished call nothing is under a key in the key blocks and the commit block, and nothing on an empty page.
use Prim.Native.Nat.{ℕ, ◌+◌, ◌*◌, ◌/◌, ◌%◌}
use native.Mathlib.Omega.{arith}
use native.Mathlib.Decide.{dec_le, dec_lt}
use mathlib.Core.Path.{◌≡◌, sym, ap, subst, ◌∙◌}
use mathlib.Core.Logic.{◌⊎◌, inl, inr}
use mathlib.Core.Bool.{true}
use lib.Dec.{T}
use lib.ListN.{length, get_or, get_or-eq_default}
use Rattle.page.specs.Frame.{page_size, erased}
use Rattle.page.specs.Header.{node_letter, keys_frame, commit_frame}
use Rattle.page.specs.Entry.{parts}
use Rattle.page.specs.declared.Frame.{Frame}
use Rattle.page.specs.declared.Form.TheVariants.{Whole}
use Rattle.page.proofs.FormLaws.{whole_is}
use Rattle.image.specs.Size.{block_size, pages_in_block}
use Rattle.image.specs.Look.{page_at, page_empty, form_at}
use Rattle.image.proofs.Looks.{sized}
use Rattle.store.specs.Kind.{page_in, kind_of, is_chosen}
use Rattle.store.specs.Record.{Record, fits}
use Rattle.store.specs.declared.Kind.TheVariants.{Keys, Commit}
use Rattle.store.proofs.BlockKinds.{kind-keys, kind-commit}
use Rattle.store.proofs.Fits.{Fit, fits_is}
use Rattle.guarantee.specs.Origin.{cipher}
use Rattle.guarantee.specs.Machine.{Machine}
use Rattle.guarantee.specs.Copies.{header_at}
use Rattle.guarantee.proofs.Histories.{History, standing}
use Rattle.guarantee.proofs.BegunPages.{empty_first, begun-end}
use Rattle.guarantee.proofs.BareCommits.{chosen_one}
use Rattle.guarantee.proofs.NodesOnFlash.{in_payloads, one_node_on_flash}

module _ (m : Machine) (h : History m) (on : T m.on) (a p c : ℕ) (e : m.origin a ≡ cipher p c) where
  abbrev g : ℕ
  g = a / page_size

  -- no page outside the image, and no empty one
  blank_unciphered : get_or m.image (g * page_size) erased ≡ erased → ⊥
  blank_unciphered = begun-end m h a p c e ((standing m h).settled.all_settled on (a / block_size))

  pub empty_unciphered : page_empty m.image g ≡ true → ⊥
  empty_unciphered empty = elim (dec_le (g * page_size + page_size) (length m.image)) [
    | yes l ↦ blank_unciphered (empty_first m.image g l empty)
    | no l ↦
        let z = sized m.image (standing m h).settled.sound.mountable.size in
        blank_unciphered (get_or-eq_default m.image erased {n = g * page_size} (omega (arith, z.full, l)))
  ]

  -- a whole page that is no N page
  whole-unciphered : (f : Frame) → form_at m.image g ≡ Whole f → (f.kind ≡ node_letter → ⊥) → ⊥
  unfolding form_at
  whole-unciphered f w other =
      let y = in_payloads m h a p c e in
      let at : y.0 ≡ g = omega (arith, y.2, y.3) in
      let v = one_node_on_flash m h y.0 y.1 p c y.2 (ap m.origin (sym y.3) ∙ e) in
      other (v.header f (ap (λ (i : ℕ). header_at m.image i) at ∙ (whole_is (page_at m.image g) f w).0)).kind

  -- the chosen blocks
  pub chosen_unciphered : is_chosen m.store.numbers (a / block_size) ≡ true → ⊥
  chosen_unciphered chosen = go (chosen_one m.store.numbers (a / block_size) chosen)
    where
      fit : Fit m.image m.store
      fit = let s = (standing m h).settled in fits_is m.image m.store
          (subst (λ (r : Record). fits m.image r ≡ true) (sym (s.good on)) s.sound.mountable.fit)

      i : ℕ
      i = g % pages_in_block

      here : (b : ℕ) → a / block_size ≡ b → page_in b i ≡ g
      here b z = omega arith

      in_keys : (b q n : ℕ) → a / block_size ≡ b → kind_of m.image b ≡ Keys q n → ⊥
      in_keys b q n z k =
          let w = (kind-keys m.image b q n k).pages i (omega arith) in
          whole-unciphered (keys_frame n q i) (ap (form_at m.image) (sym (here b z)) ∙ w) (λ o. omega (arith, o))

      in_commit : (b n s : ℕ) → a / block_size ≡ b → kind_of m.image b ≡ Commit n s → ⊥
      in_commit b n s z k = elim (dec_lt i parts) [
        | yes l ↦
            let w = (kind-commit m.image b n s k).pages i l in
            whole-unciphered (commit_frame n i s) (ap (form_at m.image) (sym (here b z)) ∙ w) (λ o. omega (arith, o))
        | no l ↦
            empty_unciphered (ap (page_empty m.image) (sym (here b z)) ∙ (kind-commit m.image b n s k).rest i (omega arith) (omega arith))
      ]

      go : (a / block_size ≡ m.store.numbers.keys0) ⊎ (a / block_size ≡ m.store.numbers.keys1) ⊎ (a / block_size ≡ m.store.numbers.commit) → ⊥
      go (inl z) = in_keys m.store.numbers.keys0 0 fit.keys0.0 z fit.keys0.1
      go (inr (inl z)) = in_keys m.store.numbers.keys1 1 fit.keys1.0 z fit.keys1.1
      go (inr (inr z)) = in_commit m.store.numbers.commit fit.commit.0 fit.commit.1 z fit.commit.2
