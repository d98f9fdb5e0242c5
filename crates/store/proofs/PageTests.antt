-- What a test of a page against a header says of the page's form.
use mathlib.Core.Path.{◌≡◌, refl, ap, ◌∙◌}
use mathlib.Core.Bool.{Bool, true, false, not, ◌&&◌}
use lib.Dec.{eqb}
use Rattle.page.specs.declared.Frame.{Frame}
use Rattle.page.specs.declared.Form.{Form}
use Rattle.page.specs.declared.Form.TheVariants.{Whole}
use Rattle.store.specs.Kind.{same_frame, whole_with}

-- a test against h is one against g, where that is h
pub by_header : (m : Form) (h g : Frame) (r : Bool) → r ≡ whole_with h m → h ≡ g → r ≡ whole_with g m
by_header m h g r e q = e ∙ ap (λ (f : Frame). whole_with f m) q

-- and of a page that is whole with header f, f decides
pub by_own_header : (m : Form) (f h g : Frame) (differs : Bool) → m ≡ Whole f
    → differs ≡ not (eqb f.kind h.kind && (eqb f.number h.number && (eqb f.unit h.unit && (eqb f.part h.part && (eqb f.key h.key && eqb f.second h.second)))))
    → h ≡ g
    → not differs ≡ whole_with g m
by_own_header m f h g differs w e q =
    rw w (ap not e ∙ in_turn (eqb f.kind h.kind) (eqb f.number h.number) (eqb f.unit h.unit) (eqb f.part h.part) (eqb f.key h.key) _ ∙ ap (same_frame f) q)
  where
    in_turn : (a b c d k l : Bool) → not (not (a && (b && (c && (d && (k && l)))))) ≡ a && b && c && d && k && l
    in_turn false b c d k l = refl
    in_turn true false c d k l = refl
    in_turn true true false d k l = refl
    in_turn true true true false k l = refl
    in_turn true true true true false l = refl
    in_turn true true true true true false = refl
    in_turn true true true true true true = refl
