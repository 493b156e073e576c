use Rattle.std.proofs.Common.{◌≡◌, ℕ, ◌<◌, slice_get}
use Rattle.race_requests.proofs.offers.are_same.Given as goal

-- the offers before number k are the same
abbrev pub invariant-loop-k : goal.invariant-loop-k
invariant-loop-k l = (i : ℕ) → i < l.k → slice_get l.offers i ≡ slice_get l.others i
