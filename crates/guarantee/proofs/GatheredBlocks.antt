-- What mounts empty, and keep empty: each block that they are to erase; among these a block that a gather has emptied of live pages, with no commit between,
-- where the last commit covers its headers. That a commit or wipe empties it is said in DeadErased.
use Prim.Native.Nat.{ℕ, ◌<◌, ◌≤◌}
use native.Mathlib.Omega.{arith}
use native.Mathlib.Decide.{dec_lt}
use mathlib.Core.Path.{◌≡◌, sym, ap, subst, ◌∙◌}
use mathlib.Core.Logic.{inl}
use mathlib.Core.Bool.{Bool, true, false, not, ◌||◌, or-true}
use mathlib.Core.List.{List, [], ◌∷◌}
use lib.Dec.{T, ltb}
use lib.ListN.{length}
use borrow.Author.Tests.{le-ltb}
use Rattle.base.specs.Each.{Each}
use Rattle.base.specs.Search.{which_from}
use Rattle.base.proofs.Choice.{and-true, true-false}
use Rattle.base.proofs.Searches.{any_agree}
use Rattle.page.specs.declared.Form.{Form}
use Rattle.image.specs.Size.{pages_in_block, blocks}
use Rattle.image.specs.Look.{block_empty, form_at}
use Rattle.image.proofs.Forms.{form_same}
use Rattle.image.proofs.Looks.{sized}
use Rattle.image.proofs.Plays.{play_all_lem}
use Rattle.store.specs.Kind.{page_in, is_data}
use Rattle.store.specs.Record.{Record, has_live, is_dead}
use Rattle.store.specs.Outcome.{Outcome, left}
use Rattle.store.specs.Mount.{sequence_of, covered_in, has_above, is_stray, is_covered_dead, is_swept, mounted, mount_steps, mount_of}
use Rattle.store.specs.Gather.{gather_of}
use Rattle.store.specs.Reply.{Done}
use Rattle.store.proofs.Views.{commit_at, mounted-commit}
use Rattle.store.proofs.BlockKinds.{data_outside}
use Rattle.store.proofs.Outcomes.{mount_outcome}
use Rattle.guarantee.specs.Call.{Call, mount, write, read, cut_off, commit, wipe, gather, Event, is_mount, lent_right}
use Rattle.guarantee.specs.Machine.{Machine, step}
use Rattle.guarantee.proofs.Loosenings.{which_in, which_each}
use Rattle.guarantee.proofs.Room.{sweep_empties}
use Rattle.guarantee.proofs.GatherCall.{gather_covered, gather-pages}
use Rattle.guarantee.proofs.Histories.{History, end_of, while_on, next, standing}
use Rattle.guarantee.proofs.Slips.{copy_before_erase}
use Rattle.guarantee.proofs.TakenCalls.{gathered_block_dead}
use Rattle.guarantee.proofs.CutMounts.{mount_keeps_empty}

-- ---- a mount that finishes leaves every block empty that it is to erase
pub mount_empties : (m : Machine) → History m → (map letters scratch : List ℕ) → T (lent_right (mount map letters scratch))
    → (n k : ℕ) → length (mount_of m.image map letters scratch).steps ≤ n → (b : ℕ) → b < blocks m.image
    → is_swept m.image (mounted m.image) b ≡ true → block_empty (step m (record { call = mount map letters scratch; n = n; k = k })).image b ≡ true
unfolding step left mount_steps
mount_empties m h map' letters scratch lent n k whole b inside swept =
    let e = ap (λ (o : Outcome). o.steps) (mount_outcome m.image map' letters scratch (copy_before_erase m h map' letters scratch lent)) in
    let p = is_swept m.image (mounted m.image) in
    rw (play_all_lem n k (mount_of m.image map' letters scratch).steps m.image whole, e)
    (sweep_empties (which_from p (blocks m.image) 0) m.image b
    (which_each (λ (a : ℕ). a < blocks m.image) p (blocks m.image) 0 (λ a i l z. omega arith))
    (inl (which_in p (blocks m.image) 0 b (omega arith) (omega arith) swept)))

-- ---- mounts, cut or not, keep a block empty that is so
abbrev pub Mounting : Event → Type 0
Mounting e = T (is_mount e.call) × T (lent_right e.call)

mount_keeps : (m : Machine) (h : History m) (call : Call) (n k : ℕ) → T (is_mount call) → T (lent_right call) → (b : ℕ) → block_empty m.image b ≡ true
    → block_empty (step m (record { call = call; n = n; k = k })).image b ≡ true
mount_keeps m h (mount map letters scratch) n k t lent b empty = mount_keeps_empty m (standing m h).settled map letters scratch lent n k b empty
mount_keeps m h (write file offset given) n k t lent b empty = absurd t
mount_keeps m h (read file offset output) n k t lent b empty = absurd t
mount_keeps m h (cut_off file offset) n k t lent b empty = absurd t
mount_keeps m h (commit noise) n k t lent b empty = absurd t
mount_keeps m h (wipe noise file offset) n k t lent b empty = absurd t
mount_keeps m h (gather block) n k t lent b empty = absurd t

any_on : (t v : Bool) → T v → T (t || v)
any_on true v q = tt
any_on false v q = q

pub mounts_keep_empty : (m : Machine) → History m → (es : List Event) → Each Mounting es → (b : ℕ) → block_empty m.image b ≡ true
    → block_empty (end_of m es).image b ≡ true
mounts_keep_empty m h [] mounting b empty = empty
mounts_keep_empty m h (e ∷ es) mounting b empty =
    mounts_keep_empty (step m e) (next m h e (any_on m.on (is_mount e.call) mounting.0.0, mounting.0.1)) es mounting.1 b
    (mount_keeps m h e.call e.n e.k mounting.0.0 mounting.0.1 b empty)

-- ---- after a gather that is done and has finished
module _ (m : Machine) (h : History m) (on : T m.on) (block n k : ℕ) (done : (gather_of m.image m.store block).reply ≡ Done)
    (whole : length (gather_of m.image m.store block).steps ≤ n) where
  abbrev gathering : Event
  gathering = record { call = gather block; n = n; k = k }

  abbrev gathered : Machine
  gathered = step m gathering

  gathered_history : History gathered
  gathered_history = next m h gathering (while_on m on false, tt)

  gathered_on : T gathered.on
  unfolding step
  gathered_on = rw (le-ltb n (length (gather_of m.image m.store block).steps) whole) tt

  dead : is_dead gathered.image gathered.store block ≡ true
  dead = gathered_block_dead m block n k done whole

  inside : block < blocks gathered.image
  unfolding is_dead
  inside = elim (dec_lt block (blocks gathered.image)) [
    | yes l ↦ l
    | no l ↦ absurd (
        let z = sized gathered.image (standing gathered gathered_history).settled.sound.mountable.size in
        let d = and-true (is_data gathered.image gathered.store.numbers block) (not (has_live gathered.store.map block)) dead in
        true-false d.0 (data_outside gathered.image gathered.store.numbers block (omega (arith, z.full))))
  ]

  -- ---- where the last commit covers its headers, the next mount erases it: no commit is waited for
  -- the gather leaves the block's pages, and the commit
  abbrev covered_at : Machine → ℕ
  covered_at m = covered_in m.image m.store.numbers.commit

  covered_same : covered_at gathered ≡ covered_at m
  covered_same =
      let st = (standing m h).settled in
      let before : m.store.numbers.commit ≡ commit_at m.image = ap (λ (r : Record). r.numbers.commit) (st.good on) ∙ mounted-commit m.image in
      let later = (standing gathered gathered_history).settled.good gathered_on in
      let after : gathered.store.numbers.commit ≡ commit_at gathered.image
      = ap (λ (r : Record). r.numbers.commit) later ∙ mounted-commit gathered.image in
      ap (covered_in gathered.image) after ∙ gather_covered m block st on done n k whole ∙ ap (covered_in m.image) (sym before)

  above_same : has_above gathered.image (covered_at gathered) block ≡ has_above m.image (covered_at m) block
  above_same =
      let kept = gather-pages m block (standing m h).settled on done n k whole in
      rw covered_same
      (any_agree (λ i. ltb (covered_at m) (sequence_of (form_at gathered.image (page_in block i))))
      (λ i. ltb (covered_at m) (sequence_of (form_at m.image (page_in block i)))) pages_in_block 0
      (λ i a l. ap (λ (f : Form). ltb (covered_at m) (sequence_of f))
      (form_same m.image gathered.image (page_in block i) (kept (page_in block i) (omega arith)))))

  pub gathered_mount_empties : has_above m.image (covered_at m) block ≡ false → (map letters scratch : List ℕ) → T (lent_right (mount map letters scratch))
      → (n' k' : ℕ) → length (mount_of gathered.image map letters scratch).steps ≤ n'
      → block_empty (step gathered (record { call = mount map letters scratch; n = n'; k = k' })).image block ≡ true
  unfolding is_swept is_covered_dead
  gathered_mount_empties covered map letters scratch lent n' k' finished =
      let good = (standing gathered gathered_history).settled.good gathered_on in
      let swept : is_swept gathered.image gathered.store block ≡ true
      = rw (dead, above_same, covered) (or-true (is_stray gathered.image gathered.store.numbers block)) in
      mount_empties gathered gathered_history map letters scratch lent n' k' finished block inside
      (subst (λ (r : Record). is_swept gathered.image r block ≡ true) good swept)
