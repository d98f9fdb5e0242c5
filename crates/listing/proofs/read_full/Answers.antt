-- A read grows the front by what it took from the reader.
use Rattle.std.proofs.Common.{◌≡◌, ℕ, ◌+◌, ◌≤◌, List, ◌++◌, length, take, arith, sym, ap, ◌∙◌, subst, length-take-le}
use Rattle.std.proofs.lemmas.List.{take-append-le}
use Rattle.std.proofs.Math.Seq.{take-append-add}
use Rattle.std.specs.Io.KnownBytes.{Consumes}
use Rattle.std.proofs.KnownBytes.{Consumes-trans}
use borrow.Rule.Slice.PartMut.{put_mid, post_of}
use Rattle.listing.proofs.read_full.Goals as goal

-- the first at of xs, then the first n of ys, where ys stands in xs from at on
front : (at room n : ℕ) (xs ys : List ℕ) → at ≤ length xs → n ≤ length ys → take at xs ++ take n ys ≡ take (at + n) (put_mid at room xs ys)
front at room n xs ys a b =
    let rest = post_of at room xs in
    let l : length (take at xs) ≡ at = length-take-le at xs a in
    sym (ap (λ k. take (k + n) (take at xs ++ (ys ++ rest))) (sym l) ∙ take-append-add (take at xs) (ys ++ rest) n ∙ ap (λ zs. take at xs ++ zs) (take-append-le n ys rest b))

pub loop-done-preserved : goal.loop-done-preserved
loop-done-preserved g c =
    let l = c.loop-done in
    let r = c.in_ok-n.ensures in
    (omega arith, subst (Consumes _ _) (front l.done _ c.in_ok-n.n l.buf c.read.new.buf l.invariant.0 r.bound.0) (Consumes-trans _ _ _ _ _ l.invariant.1 r.bytes.0))
