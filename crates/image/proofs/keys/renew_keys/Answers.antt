-- `keys::renew_keys` copies the noise of the page, then the old keys over it where they stay.
use Prim.Native.Nat.{ℕ, ◌*◌}
use mathlib.Core.Path.{ap₂, ◌∙◌}
use mathlib.Core.List.{List}
use Rattle.page.specs.Frame.{payload_size}
use Rattle.page.specs.Key.{key_size, keys_in_page}
use Rattle.page.proofs.Slices.{lent-part}
use Rattle.image.specs.Block.{keys_from, kept_key}
use Rattle.image.proofs.KeyBlock.{renewed-page}
use Rattle.image.proofs.keys.renew_keys.Goals as goal

pub returns : goal.returns
returns c =
    let a = c.args in
    let copied = c.copy.ensures ∙ lent-part a.noise.now (key_size * a.first) payload_size in
    c.keep_used.ensures
    ∙ ap₂ (λ (page keys : List ℕ). keys_from (kept_key page a.letters.now keys a.first) keys_in_page 0) c.page_at-page.ensures copied
    ∙ renewed-page a.image.now a.letters.now a.noise.now a.last a.i a.first c.requires.first_lt_positions.1
