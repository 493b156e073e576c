-- An event breaks the same rule after lists that answer it the same.
use Rattle.std.proofs.Common.{◌≡◌, ℕ, ◌==◌, ◌||◌, ◌&&◌, not, true, false, nat_lt, List, [], ◌∷◌, Some, is_some}
use Rattle.std.proofs.{Common.{refl, sym, ap, subst, eq-eqb}, lemmas.Bool.{or_left, or_right}}
use Rattle.race_records.specs.declared.event.{Event.Event, Op.{Op, TheVariants.{Go, Exit, Read, Write, Send, Recv}}}
use Rattle.race_records.specs.declared.event.Op.TheVariants.{Meet, RecvClosed, Close, Default, Lock, Unlock, RLock, RUnlock}
use Rattle.race_records.specs.declared.event.Op.TheVariants.{TryLock, TryRLock, TryFail, OnceBegin, OnceEnd, OnceDone, Fault}
use Rattle.race_model.specs.{Events.{partner, gives, takes_part, is_fault}}
use Rattle.race_model.specs.Legal.{op_rules, receiver_runs, least_broken, broken}
use Rattle.race_exchange.specs.{Independent.{thing_of, is_default}, Says.AnswersTheSame}

-- who does the event takes part in it, and so does the second participant
pub takes_own_part : (e : Event) → takes_part e.who e ≡ true
takes_own_part e = or_left (e.who == e.who) (gives (partner e.op) e.who) (eq-eqb e.who e.who refl)

pub takes_second_part : (e : Event) (g : ℕ) → partner e.op ≡ Some g → takes_part g e ≡ true
takes_second_part e g is = or_right (e.who == g) (gives (partner e.op) g) (subst (λ o. gives o g ≡ true) (sym is) (eq-eqb g g refl))

module _ (e : Event) (one other : List Event) (same : AnswersTheSame e one other) where
  receiver_same : (o : Op) → e.op ≡ o → receiver_runs one o ≡ receiver_runs other o
  receiver_same (Meet r c v) is = same.runs r (takes_second_part e r (ap partner is))
  receiver_same _ is = refl

  pub op_rules_same : (caps : ℕ → ℕ) (o : Op) → e.op ≡ o → is_default o ≡ false → is_fault o ≡ false → op_rules caps one e.who o ≡ op_rules caps other e.who o
  op_rules_same caps (Go h) is d f = ap (λ b. (3, h == 0 || b) ∷ []) (same.started h (takes_second_part e h (ap partner is)))
  op_rules_same caps Exit is d f = ap (λ o. (20, is_some o) ∷ []) (same.innermost e.who (takes_own_part e))
  op_rules_same caps (Read x v) is d f = ap (λ n. (21, not (n == v)) ∷ []) (same.last_value x (ap thing_of is))
  op_rules_same caps (Write x v) is d f = refl
  op_rules_same caps (Send c v) is d f =
      λ i. (5, caps c == 0) ∷ (6, same.is_closed c (ap thing_of is) i) ∷ (7, same.buffered c (ap thing_of is) i == caps c) ∷ []
  op_rules_same caps (Recv c v) is d f =
      λ i. (5, caps c == 0) ∷ (8, same.sends c (ap thing_of is) i == same.receives c (ap thing_of is) i) ∷ (9, not (gives (same.front c (ap thing_of is) i) v)) ∷ []
  op_rules_same caps (Meet r c v) is d f = λ i. (4, r == e.who) ∷ (5, nat_lt 0 (caps c)) ∷ (6, same.is_closed c (ap thing_of is) i) ∷ []
  op_rules_same caps (RecvClosed c) is d f =
      λ i. (10, not (same.is_closed c (ap thing_of is) i)) ∷ (11, nat_lt (same.receives c (ap thing_of is) i) (same.sends c (ap thing_of is) i)) ∷ []
  op_rules_same caps (Close c) is d f = λ i. (12, same.is_closed c (ap thing_of is) i) ∷ []
  op_rules_same caps (Default cases) is d f = cc
  op_rules_same caps (Lock l) is d f = λ i. (13, same.is_held l (ap thing_of is) i) ∷ (14, same.is_read_held l (ap thing_of is) i) ∷ []
  op_rules_same caps (Unlock l) is d f = λ i. (15, not (same.is_held l (ap thing_of is) i)) ∷ []
  op_rules_same caps (RLock l) is d f = λ i. (13, same.is_held l (ap thing_of is) i) ∷ []
  op_rules_same caps (RUnlock l) is d f = λ i. (16, not (same.is_read_held l (ap thing_of is) i)) ∷ []
  op_rules_same caps (TryLock l) is d f = λ i. (13, same.is_held l (ap thing_of is) i) ∷ (14, same.is_read_held l (ap thing_of is) i) ∷ []
  op_rules_same caps (TryRLock l) is d f = λ i. (13, same.is_held l (ap thing_of is) i) ∷ []
  op_rules_same caps (TryFail l) is d f = refl
  op_rules_same caps (OnceBegin o) is d f = λ i. (17, same.is_begun o (ap thing_of is) i) ∷ []
  op_rules_same caps (OnceEnd o) is d f = λ i. (18, not (gives (same.innermost e.who (takes_own_part e) i) o)) ∷ []
  op_rules_same caps (OnceDone o) is d f = λ i. (19, not (same.is_ended o (ap thing_of is) i)) ∷ []
  op_rules_same caps (Fault cause) is d f = cc

  -- the rest of the rules
  pub broken_by_rules : (caps : ℕ → ℕ) → op_rules caps one e.who e.op ≡ op_rules caps other e.who e.op → broken caps one e ≡ broken caps other e
  broken_by_rules caps rules i =
      least_broken ((1, same.over i) ∷ (2, not (same.runs e.who (takes_own_part e) i && receiver_same e.op refl i)) ∷ rules i)

  -- an event that is neither a default nor a fault breaks the same rule
  pub broken_same : (caps : ℕ → ℕ) → is_default e.op ≡ false → is_fault e.op ≡ false → broken caps one e ≡ broken caps other e
  broken_same caps d f = broken_by_rules caps (op_rules_same caps e.op refl d f)
