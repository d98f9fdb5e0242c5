-- What a call leaves, as a C caller sees it: the reply as a number, the image, the record in its three buffers.
use Rattle.std.specs.Prelude.{ℕ, List, [], ◌∷◌, get_or}
use Rattle.store.specs.Reply.{number_of}
use Rattle.store.specs.Record.{Record, record_of}
use Rattle.store.specs.Outcome.{Left}
use Rattle.store.specs.declared.Numbers.{Numbers}

-- the record's numbers in an array of five: next sequence, next epoch, and the blocks of key block 0, key block 1 and the commit
abbrev pub numbers_of : List ℕ → Numbers
numbers_of five =
    record { sequence = get_or five 0 0; epoch = get_or five 1 0; keys0 = get_or five 2 0; keys1 = get_or five 3 0; commit = get_or five 4 0 }

abbrev pub five_of : Numbers → List ℕ
five_of n = n.sequence ∷ n.epoch ∷ n.keys0 ∷ n.keys1 ∷ n.commit ∷ []

-- what stands when a call returns: its reply's number, the image, the record, and what else is lent (read's output)
pub record Faced : Type 0 where
  pub reply : ℕ
  pub image : List ℕ
  pub after : Record
  pub lent : List ℕ

-- the same, from the record's parts
abbrev pub faced_with : ℕ → List ℕ → List ℕ → List ℕ → Numbers → List ℕ → Faced
faced_with r img map letters n lent = record { reply = r; image = img; after = record_of map letters n; lent = lent }

-- and in the terms of the code: the reply, and what is in every lent buffer
abbrev pub faced : ℕ → List ℕ → List ℕ → List ℕ → List ℕ → List ℕ → Faced
faced r img map letters five lent = faced_with r img map letters (numbers_of five) lent

-- what the store leaves, its reply as document 01's number
unfoldable pub face : Left → Faced
face l = record { reply = number_of l.reply; image = l.image; after = l.after; lent = l.lent }
