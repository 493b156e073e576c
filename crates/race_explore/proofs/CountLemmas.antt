-- What is counted of one run more.
use Rattle.std.proofs.Common.{ℕ, ◌≡◌, ◌≤◌, ◌+◌, ◌++◌, ◌<◌, Bool, true, false, cond, List, [], ◌∷◌, All, length, refl, arith, length-append}
use Rattle.std.{proofs.lemmas.List.Sums.{count_by-le-length, sum_by-append}, specs.{Int.from_bool, Prelude.count_by}}
use Rattle.std.proofs.lemmas.List.Elements.{All-weaker}
use Rattle.race_explore.specs.declared.{walk.TheConstants.MAX_RUNS, explored.{Explored.Explored, RacyVariable.RacyVariable}}
use Rattle.race_explore.specs.Told.{AreRacy, is_racy_on, racy_runs}
use Rattle.race_explore.specs.Walk.{Looked, is_clean_run, is_racy_verdict, is_deadlock_end, is_fault_end, Counts, IsCounted, HasSameCounts, IsBounded}

-- one more is counted
pub count_more : {X : Type 0} (p : X → Bool) (xs : List X) (x : X) → count_by p (xs ++ x ∷ []) ≡ count_by p xs + cond (p x) 1 0
count_more p xs x =
    let split : count_by p (xs ++ x ∷ []) ≡ count_by p xs + (0 + cond (p x) 1 0) = sum_by-append (λ y. cond (p y) 1 0) xs (x ∷ []) in
    omega (arith, split)

-- the counts of the runs that were seen, and of one more
pub counts_more : {A : Type 0} (seen : List Looked) (looked : Looked) (old new : Explored A) → Counts seen old
    → IsCounted looked.run.end looked.verdict old new → Counts (seen ++ looked ∷ []) new
counts_more seen looked old new counts more = record {
  runs = let longer : length (seen ++ looked ∷ []) ≡ length seen + 1 = length-append seen (looked ∷ []) in let a = counts.runs in let b = more.runs in omega (arith, a, b, longer);
  clean = let a = more.clean in let b = counts.clean in let c = count_more (λ (l : Looked). is_clean_run l.verdict l.run.end) seen looked in omega (arith, a, b, c);
  races = let a = more.races in let b = counts.races in let c = count_more (λ (l : Looked). is_racy_verdict l.verdict) seen looked in omega (arith, a, b, c);
  deadlocks = let a = more.deadlocks in let b = counts.deadlocks in let c = count_more (λ (l : Looked). is_deadlock_end l.run.end) seen looked in omega (arith, a, b, c);
  faults = let a = more.faults in let b = counts.faults in let c = count_more (λ (l : Looked). is_fault_end l.run.end) seen looked in omega (arith, a, b, c);
}

-- no count is greater than that of the runs, nor this than that of those that were made
pub counts_bounded : {A : Type 0} (seen : List Looked) (skipped : ℕ) (e : Explored A) → Counts seen e → e.made ≡ length seen + skipped → e.made < MAX_RUNS
    → IsBounded e
counts_bounded seen skipped e counts made few = record {
  runs = let all = counts.runs in omega (arith, all, made, few);
  made = few;
  clean = bound e.clean (λ (l : Looked). is_clean_run l.verdict l.run.end) counts.clean;
  races = bound e.races (λ (l : Looked). is_racy_verdict l.verdict) counts.races;
  deadlocks = bound e.deadlocks (λ (l : Looked). is_deadlock_end l.run.end) counts.deadlocks;
  faults = bound e.faults (λ (l : Looked). is_fault_end l.run.end) counts.faults;
}
  where
    bound : (n : ℕ) (p : Looked → Bool) → n ≡ count_by p seen → n ≤ e.runs
    bound n p is = let all = counts.runs in let below = count_by-le-length p seen in omega (arith, is, all, below)

-- where none was counted in between
pub still_bounded : {A : Type 0} (old between : Explored A) → IsBounded old → HasSameCounts old between → IsBounded between
still_bounded old between bounded same = record {
  runs = let a = bounded.runs in let b = same.runs in omega (arith, a, b);
  made = let a = bounded.made in let b = same.made in omega (arith, a, b);
  clean = let a = bounded.clean in let b = same.runs in let c = same.clean in omega (arith, a, b, c);
  races = let a = bounded.races in let b = same.runs in let c = same.races in omega (arith, a, b, c);
  deadlocks = let a = bounded.deadlocks in let b = same.runs in let c = same.deadlocks in omega (arith, a, b, c);
  faults = let a = bounded.faults in let b = same.runs in let c = same.faults in omega (arith, a, b, c);
}

-- one or none
pub as_count : (b : Bool) → from_bool b ≡ cond b 1 0
as_count true = refl
as_count false = refl

-- no entry counts more runs than there are
pub racy_few : {A : Type 0} (seen : List Looked) (e : Explored A) → Counts seen e → AreRacy seen e.racy.items → All (λ v. v.runs ≤ e.runs) e.racy.items
racy_few {A = A} seen e counts racy =
    All-weaker (λ (v : RacyVariable A). v.runs ≡ racy_runs seen v.race.var) (λ (v : RacyVariable A). v.runs ≤ e.runs)
    (λ v is. let all = counts.runs in let below = count_by-le-length (λ (l : Looked). is_racy_on v.race.var l.verdict) seen in omega (arith, is, all, below))
    e.racy.items racy.runs
