-- `next_cache` makes a new cache every 256 counters.
use Prim.Native.Nat.{◌+◌}
use native.Mathlib.Omega.{arith}
use Rattle.cipher.proofs.CachingLaws.{serves_same}
use Rattle.cipher.proofs.caching.next_cache.Goals as goal

pub returns : goal.returns
returns c =
    let n = c.args.n in
    serves_same n (n + 1) (omega arith) c.args.w.now c.args.cache c.requires.serves
