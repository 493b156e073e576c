-- One more write of a loop that sends a text.
use Rattle.std.proofs.Common.{◌≡◌, ℕ, ◌+◌, ◌-◌, ◌==◌, ◌&&◌, Bool, true, false, List, length, take, drop, Option, refl}
use Rattle.std.proofs.{Common.{sym, ap, subst, ◌∙◌, arith, length-drop}, Math.Seq.{take-add, take-length}}
use Rattle.std.{proofs.{KnownBytes.Appends-trans, lemmas.Bool.Decides.nat_tests}, specs.Io.KnownBytes.Appends}
use Rattle.race_records.specs.Devices.{counted}

-- what was sent, and then what one write took of the rest
pub Appends-sent : (before middle after : Option (List ℕ)) (bytes : List ℕ) (sent taken : ℕ) → Appends before middle (take sent bytes)
    → Appends middle after (take taken (take (length bytes - sent) (drop sent bytes))) → Appends before after (take (sent + taken) bytes)
Appends-sent before middle after bytes sent taken first next =
    let rest : take (length bytes - sent) (drop sent bytes) ≡ drop sent bytes =
    ap (λ n. take n (drop sent bytes)) (sym (length-drop sent bytes)) ∙ take-length (drop sent bytes) in
    subst (λ (l : List ℕ). Appends before after l) (sym (take-add sent taken bytes))
    (Appends-trans before middle after (take sent bytes) (take taken (drop sent bytes)) first
    (subst (λ (l : List ℕ). Appends middle after (take taken l)) rest next))

-- a write that took a byte isn't counted
pub counted-taken : (taken count : ℕ) (some : Bool) → (taken ≡ 0 → ⊥) → counted ((taken == 0) && some) count ≡ count
counted-taken taken count some positive = by (taken == 0) refl
  where
    by : (b : Bool) → (taken == 0) ≡ b → counted (b && some) count ≡ count
    by true e = absurd (positive (grind (arith, nat_tests)))
    by false e = refl
