-- The recorder goes to the next contractor: what a commit or wipe that is done leaves on the flash, whatever was called and cut before it; and what it leaves
-- where the files are empty then. `keys_used_or_new` (KeysLeft), `handover_empty` and `handover_image` (Handovers) of proofs/ prove it of every such call.
-- Each point names, in brackets, wrong stores that it rules out.
use Rattle.std.specs.Prelude.{ℕ, ◌-◌, ◌/◌, ◌%◌, ◌<◌, ◌≡◌, ◌⊎◌, true, false, cond, ◌&&◌, List, get_or, replicate, T, eqb, ltb}
use Rattle.std.proofs.Math.Option.{none}
use Rattle.base.specs.Fold.{list_from}
use Rattle.page.specs.Frame.{page_size, erased}
use Rattle.page.specs.Plan.{places}
use Rattle.page.specs.Key.{key_in_noise}
use Rattle.page.specs.Entry.{parts}
use Rattle.image.specs.Size.{block_size, blocks}
use Rattle.image.specs.Look.{block_empty}
use Rattle.image.specs.Block.{key_block_page, commit_block_page}
use Rattle.store.specs.Kind.{is_chosen}
use Rattle.store.specs.Record.{with_numbers}
use Rattle.store.specs.Format.{formatted}
use Rattle.store.specs.declared.Numbers.{Numbers}
use Rattle.store.specs.Reply.{Done}
use Rattle.guarantee.specs.Call.{Event}
use Rattle.guarantee.specs.Book.{Book, held_among}
use Rattle.guarantee.specs.Origin.{cipher, key_byte}
use Rattle.guarantee.specs.Machine.{Machine, left_at, step}
use Rattle.guarantee.specs.Statement.{purges}
use Rattle.guarantee.specs.History.{History}

-- ---- a purge: a commit or wipe that is done, after any list of calls, whatever was cut in it
pub record Purge : Type 0 where
  pub before : Machine
  pub history : History before
  pub on : T before.on
  pub event : Event
  pub purging : T (purges event.call)
  pub done : (left_at before event).reply ≡ Done

-- the machine that it leaves
abbrev pub after_purge : Purge → Machine
after_purge x = step x.before x.event

-- every byte of a key on the flash is of a key that a payload has, or of one that call c brought [a commit that
-- renews key block 0 only; one that copies deleted keys]
abbrev pub KeysUsedOrNew : Machine → ℕ → Type 0
KeysUsedOrNew m c = (a p d i : ℕ) → m.origin a ≡ key_byte p d i → T (eqb d (m.book.bringer p) && held_among (λ x. true) m.book p) ⊎ (d ≡ c)

-- ---- a handover: a purge that leaves no payload
abbrev pub Bare : Book → Type 0
Bare b = (x : ℕ) → x < places → b.content x ≡ none

pub record Handover : Type 0 where
  pub purge : Purge
  pub bare : Bare (after_purge purge).book

-- the machine that is handed over
abbrev pub handed : Handover → Machine
handed x = after_purge x.purge

-- what is then on the flash and in the record, its last call being c
pub record NothingLeft (m : Machine) (c : ℕ) : Type 0 where
  -- every block is empty but the two key blocks and the commit block [a commit that erases no dead data block]
  pub elsewhere : (b : ℕ) → b < blocks m.image → is_chosen m.store.numbers b ≡ false → block_empty m.image b ≡ true
  -- every key is of that call [a commit that renews key block 0 only]
  pub keys : (a p d i : ℕ) → m.origin a ≡ key_byte p d i → d ≡ c
  -- no byte is enciphered [a commit that erases no dead data block]
  pub unciphered : (a p d : ℕ) → m.origin a ≡ cipher p d → ⊥
  -- the record is a new volume's but for its numbers: no place has a page or a key, every letter is f [a commit that leaves a d]
  pub cleared : m.store ≡ with_numbers formatted m.store.numbers

-- ---- the image that is handed over, from its length, the noise of the last call, the two next numbers and the places of the three blocks
-- page i of block b: every key is the noise's; the commit has no entry, every letter is f, and it covers all sequences before the next; all three are of the
-- epoch before the next; all else is erased [a commit block one epoch above its key blocks; old keys or payloads in any byte of any page]
abbrev pub handed_page : List ℕ → Numbers → ℕ → ℕ → List ℕ
handed_page noise n b i =
    cond (eqb b n.keys0) (key_block_page (n.epoch - 1) 0 (key_in_noise noise) i)
    (cond (eqb b n.keys1) (key_block_page (n.epoch - 1) 1 (key_in_noise noise) i)
    (cond (eqb b n.commit && ltb i parts) (commit_block_page (n.epoch - 1) (n.sequence - 1) formatted.map formatted.letters i)
    (replicate page_size erased)))

-- the byte at address a, and all of them
abbrev pub handed_byte : List ℕ → Numbers → ℕ → ℕ
handed_byte noise n a = get_or (handed_page noise n (a / block_size) (a % block_size / page_size)) (a % page_size) erased

unfoldable pub handed_image : ℕ → List ℕ → Numbers → List ℕ
handed_image size noise n = list_from (handed_byte noise n) size 0
