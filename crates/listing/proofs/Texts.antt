-- Text that grows from the front of a buffer.
use Prim.Native.Nat.{ℕ, ◌+◌, ◌≤◌}
use native.Mathlib.Omega.{arith}
use mathlib.Core.Path.{◌≡◌, refl}
use mathlib.Core.List.{List, ◌++◌, append_assoc}
use lib.ListN.{length, take, drop}
use lib.Seq.{length-take-le, take-append-add, take-append_seam}
use Rattle.base.specs.Part.{splice}
use mathlib.Core.Bool.{false}
use lib.Dec.{eqb}
use Rattle.store.specs.Reply.{error_number}
use Rattle.store.specs.declared.Error.{Error}
use Rattle.store.specs.declared.Error.TheVariants.{ImageSize, BufferLength, NoiseLength, NoSuchFile, OffsetOutside, PayloadLength, RecordUnfit, NothingThere, NoFreeKey, NoRoom, NumbersSpent, NoKeyBlock, NoCommit, EntryUnfit, NothingToGather, PowerCut}

-- a part written after the first at bytes
pub take_more : (xs ys : List ℕ) (at n : ℕ) → at + n ≤ length xs → length ys ≡ n → take (at + n) (splice xs at ys) ≡ take at xs ++ ys
unfolding splice
take_more xs ys at n h e =
    let l : length (take at xs) ≡ at = length-take-le at xs (omega arith) in
    go (take at xs) (drop (length ys) (drop at xs)) l
  where
    go : (p q : List ℕ) → length p ≡ at → take (at + n) (p ++ (ys ++ q)) ≡ p ++ ys
    go p q l = rw (← l, ← e, take-append-add, take-append_seam)

-- four texts written one after the other
pub in_turn : (s a b c d : List ℕ) → (((s ++ a) ++ b) ++ c) ++ d ≡ s ++ (a ++ (b ++ (c ++ d)))
in_turn s a b c d = simp append_assoc

-- no refusal has the number 0
pub refused_lem : (error : Error) → eqb (error_number error) 0 ≡ false
refused_lem ImageSize = refl
refused_lem BufferLength = refl
refused_lem NoiseLength = refl
refused_lem NoSuchFile = refl
refused_lem OffsetOutside = refl
refused_lem PayloadLength = refl
refused_lem RecordUnfit = refl
refused_lem NothingThere = refl
refused_lem NoFreeKey = refl
refused_lem NoRoom = refl
refused_lem NumbersSpent = refl
refused_lem NoKeyBlock = refl
refused_lem NoCommit = refl
refused_lem EntryUnfit = refl
refused_lem NothingToGather = refl
refused_lem PowerCut = refl
