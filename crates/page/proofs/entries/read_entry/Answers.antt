-- `entries::read_entry` tells a vacant entry, and reads the two numbers of any other as a pair.
use borrow.Author.Tests.{le-leb, lt-leb}
use mathlib.Core.Path.{sym, ◌∙◌}
use Rattle.page.specs.Column.{pair_in}
use Rattle.page.specs.Entry.{entry_of}
use Rattle.page.proofs.Commits.{entry_by_pair}
use Rattle.page.proofs.entries.read_entry.Goals as goal

pub returns-then-is_vacant : goal.returns-then-is_vacant
unfolding entry_of
returns-then-is_vacant c = rw (← c.is_vacant.ensures, c.if-is_vacant.true)

pub returns-in_default : goal.returns-in_default
returns-in_default c =
    let pair = c.pair_of-numbers.ensures ∙ (λ i. pair_in (c.word4.ensures i) (c.word4-2.ensures i)) in
    rw (
      entry_by_pair _ (sym c.is_vacant.ensures ∙ c.if-is_vacant.false),
      ← pair,
      c.in_default.is,
    )

pub returns-then-page-gt-LAST_PAGE : goal.returns-then-page-gt-LAST_PAGE
returns-then-page-gt-LAST_PAGE c =
    let pair = c.pair_of-numbers.ensures ∙ (λ i. pair_in (c.word4.ensures i) (c.word4-2.ensures i)) in
    rw (
      entry_by_pair _ (sym c.is_vacant.ensures ∙ c.if-is_vacant.false),
      ← pair,
      c.in-Some.is,
      lt-leb _ _ c.if-page-gt-LAST_PAGE.true,
    )

pub returns-then-key-gt-LAST_POSITION : goal.returns-then-key-gt-LAST_POSITION
returns-then-key-gt-LAST_POSITION c =
    let pair = c.pair_of-numbers.ensures ∙ (λ i. pair_in (c.word4.ensures i) (c.word4-2.ensures i)) in
    rw (
      entry_by_pair _ (sym c.is_vacant.ensures ∙ c.if-is_vacant.false),
      ← pair,
      c.in-Some.is,
      le-leb _ _ c.if-page-gt-LAST_PAGE.false,
      lt-leb _ _ c.if-key-gt-LAST_POSITION.true,
    )

pub returns : goal.returns
returns c =
    let pair = c.pair_of-numbers.ensures ∙ (λ i. pair_in (c.word4.ensures i) (c.word4-2.ensures i)) in
    rw (
      entry_by_pair _ (sym c.is_vacant.ensures ∙ c.if-is_vacant.false),
      ← pair,
      c.in-Some.is,
      le-leb _ _ c.if-page-gt-LAST_PAGE.false,
      le-leb _ _ c.if-key-gt-LAST_POSITION.false,
    )
