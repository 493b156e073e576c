-- How many shards there may be, how many events they may be handed at a time, and when they are refused something.
use Rattle.std.specs.Prelude.{ℕ, ◌≡◌, ◌⊎◌, ◌&&◌, nat_le, Bool}
use Rattle.race_shards.specs.declared.fault.{JudgeFault.JudgeFault, TheConstants.{MAX_SHARDS, MAX_BLOCK}}

-- so many shards there may be
abbrev pub is_shards : ℕ → Bool
is_shards n = nat_le 1 n && nat_le n MAX_SHARDS

-- so many events may be handed on at a time
abbrev pub is_block : ℕ → Bool
is_block n = nat_le 1 n && nat_le n MAX_BLOCK

-- a thread or memory was refused
abbrev pub IsRefused : JudgeFault → Type 0
IsRefused fault = (fault ≡ JudgeFault.NoThread) ⊎ (fault ≡ JudgeFault.OutOfMemory)
