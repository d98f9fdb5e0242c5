-- Document 01, "Contracts and cases": what a call leaves, and what its form with n and k leaves.
use Rattle.std.specs.Prelude.{ℕ, ◌+◌, cond, List, [], length, ltb, Err}
use Rattle.image.specs.Size.{most_blocks}
use Rattle.image.specs.Step.{Step, play, play_all}
use Rattle.store.specs.Reply.{Reply, is_done}
use Rattle.store.specs.Record.{Record, record_of}
use Rattle.store.specs.declared.Answer.{Answer}
use Rattle.store.specs.declared.Numbers.{Numbers}
use Rattle.store.specs.declared.Error.TheVariants.{PowerCut}

-- a call's outcome: its reply, its flash steps in order, the record afterwards, and what else is lent (mount's scratch, read's output)
pub record Outcome : Type 0 where
  pub reply : Reply
  pub steps : List Step
  pub after : Record
  pub lent : List ℕ

-- the outcome of a call whose tests replied v: its steps, its record and its buffer where it is taken; no step, and record and buffer as given, where it is refused
abbrev pub decided : Reply → List Step → Record → List ℕ → Record → List ℕ → Outcome
decided v steps after lent before as_given =
    record {
      reply = v;
      steps = cond (is_done v) steps [];
      after = cond (is_done v) after before;
      lent = cond (is_done v) lent as_given;
    }

-- what stands when the call returns
pub record Left : Type 0 where
  pub reply : Reply
  pub image : List ℕ
  pub after : Record
  pub lent : List ℕ

-- the form with n and k: power for n steps and k bytes. It is cut where it has more steps
unfoldable pub left : ℕ → ℕ → Outcome → List ℕ → Left
left n k o img =
    record {
      reply = cond (ltb n (length o.steps)) (Err PowerCut) o.reply;
      image = play n k o.steps img;
      after = o.after;
      lent = o.lent;
    }

-- the whole call: all its steps
unfoldable pub left_whole : Outcome → List ℕ → Left
left_whole o img = record { reply = o.reply; image = play_all o.steps img; after = o.after; lent = o.lent }

-- no call has more steps than a wipe on the largest image if every block of it were dead
abbrev pub most_steps : ℕ
most_steps = most_blocks + 56

-- what stands, in the terms of the code: an answer, and what is in every lent buffer
abbrev pub standing : Answer → List ℕ → List ℕ → List ℕ → List ℕ → Left
standing a img map letters lent =
    record { reply = a.reply; image = img; after = record_of map letters a.numbers; lent = lent }

-- the answer of a call that leaves the numbers
abbrev pub answered : Reply → Numbers → Answer
answered v n = record { reply = v; numbers = n }
