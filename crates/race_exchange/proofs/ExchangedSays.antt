-- Lists in which two independent neighbours have changed places say the same.
use Rattle.std.proofs.Common.{◌≡◌, ◌⊎◌, ℕ, ◌-◌, ◌==◌, ◌||◌, ◌&&◌, if◌then◌else◌, not, Bool, true, false, nat_lt, List, [], ◌∷◌}
use Rattle.std.proofs.Common.{◌++◌, Option, Some, None, unwrap_or, slice_get, filter_map, count_by, refl, ap, ◌∙◌, inl, inr}
use Rattle.std.specs.List.{list_any}
use Rattle.std.proofs.lemmas.Bool.{cases_Bool, false_from_ne_true}
use Rattle.race_records.specs.declared.event.{Event.Event, Cause.{Cause, TheVariants.{SendClosed, CloseClosed}}}
use Rattle.race_records.specs.declared.event.{Cause.TheVariants.{CloseNil, UnlockFree, RUnlockFree}, Op.Op}
use Rattle.race_records.specs.declared.event.Op.TheVariants.{Default, OnceBegin, Fault}
use Rattle.race_records.specs.declared.cases.{Case.Case, Dir.Dir}
use Rattle.race_model.specs.Events.{takes_part, starts, is_exit, is_fault, writes, sends, receives, closes, locks, unlocks}
use Rattle.race_model.specs.Events.{rlocks, runlocks, once_begins, once_ends, count, has, has_exited, last_of}
use Rattle.race_model.specs.State.{written, last_value, is_closed, buffered, sent, is_held}
use Rattle.race_model.specs.State.{is_read_held, unended_once, innermost}
use Rattle.race_model.specs.Legal.{op_rules, can_proceed, is_ready, cause_holds}
use Rattle.race_exchange.specs.{Independent.{OfVariable, OfChannel, are_independent}, Says.{SaysTheSame, AnswersTheSame}}
use Rattle.race_exchange.proofs.Apart.{Apart, apart}
use Rattle.race_exchange.proofs.Exchanged.{count_exchanged, length_exchanged, values_exchanged, last_exchanged}
use Rattle.race_exchange.proofs.OperationKinds.{writes_on, sends_on, one_at_most, written_none, sent_none, unended_none, not_by}
use Rattle.race_exchange.proofs.Asked.{broken_by_rules, op_rules_same}

-- one of the two events is not g's
pub one_is_not_by : (a b : Event) → Apart a b → (g : ℕ) → ((a.who == g) ≡ false) ⊎ ((b.who == g) ≡ false)
one_is_not_by a b both g = elim (cases_Bool (takes_part g a)) [
  | inl in_a ↦ inr (not_by g b (false_from_ne_true (takes_part g b) (both.no_goroutine g in_a)))
  | inr out ↦ inl (not_by g a out)
]

-- a default and a fault see of the state what channels and locks say
module _ (caps : ℕ → ℕ) (one other : List Event) (is_closed_same : (c : ℕ) → is_closed c one ≡ is_closed c other)
    (buffered_same : (c : ℕ) → buffered c one ≡ buffered c other) where
  can_same : (c : ℕ) (dir : Dir) → can_proceed caps one c dir ≡ can_proceed caps other c dir
  can_same c Dir.Send i = is_closed_same c i || (nat_lt 0 (caps c) && nat_lt (buffered_same c i) (caps c))
  can_same c Dir.Recv i = is_closed_same c i || (nat_lt 0 (caps c) && nat_lt 0 (buffered_same c i))

  ready_same : (case : Case) → is_ready caps one case ≡ is_ready caps other case
  ready_same case = by case.chan
    where
      by : (chan : Option ℕ)
          → ◌≡◌ {A = Bool} (elim chan [ None ↦ false | Some c ↦ can_proceed caps one c case.dir ])
          (elim chan [ None ↦ false | Some c ↦ can_proceed caps other c case.dir ])
      by None = refl
      by (Some c) = can_same c case.dir

  cause_same : (held : (l : ℕ) → is_held l one ≡ is_held l other) (read_held : (l : ℕ) → is_read_held l one ≡ is_read_held l other) (cause : Cause)
      → cause_holds one cause ≡ cause_holds other cause
  cause_same held read_held (SendClosed c) = is_closed_same c
  cause_same held read_held (CloseClosed c) = is_closed_same c
  cause_same held read_held CloseNil = refl
  cause_same held read_held (UnlockFree l) = ap not (held l)
  cause_same held read_held (RUnlockFree l) = ap not (read_held l)

module _ (before : List Event) (a b : Event) (rest : List Event) (both : Apart a b) where
  counts : (p : Event → Bool) → count_by p (before ++ a ∷ b ∷ rest) ≡ count_by p (before ++ b ∷ a ∷ rest)
  counts p = count_exchanged before a b rest p

  kinds : (kind : Op → Bool) → count kind (before ++ a ∷ b ∷ rest) ≡ count kind (before ++ b ∷ a ∷ rest)
  kinds kind = counts (λ e. kind e.op)

  some : (kind : Op → Bool) → has kind (before ++ a ∷ b ∷ rest) ≡ has kind (before ++ b ∷ a ∷ rest)
  some kind = ap (nat_lt 0) (kinds kind)

  exits : (g : ℕ) → has_exited g (before ++ a ∷ b ∷ rest) ≡ has_exited g (before ++ b ∷ a ∷ rest)
  exits g = ap (nat_lt 0) (counts (λ e. (e.who == g) && is_exit e.op))

  values : (x : ℕ) → last_value x (before ++ a ∷ b ∷ rest) ≡ last_value x (before ++ b ∷ a ∷ rest)
  values x = ap (λ o. unwrap_or o 0) (last_exchanged (λ (e : Event). written x e.op) a b rest before
      (elim (one_at_most a.op b.op (OfVariable x) (writes x) both.no_thing (writes_on x)) [
        | inl other ↦ inl (written_none x a.op other)
        | inr other ↦ inr (written_none x b.op other)
      ]))

  sent_values : (c : ℕ) → filter_map (λ (e : Event). sent c e.op) (before ++ a ∷ b ∷ rest) ≡ filter_map (λ (e : Event). sent c e.op) (before ++ b ∷ a ∷ rest)
  sent_values c = values_exchanged (λ (e : Event). sent c e.op) a b rest before
      (elim (one_at_most a.op b.op (OfChannel c) (sends c) both.no_thing (sends_on c)) [
        | inl other ↦ inl (sent_none c a.op other)
        | inr other ↦ inr (sent_none c b.op other)
      ])

  -- a once is ended in both or in none
  unended : (g who : ℕ) (o : Op) → unended_once g (before ++ a ∷ b ∷ rest) who o ≡ unended_once g (before ++ b ∷ a ∷ rest) who o
  unended g who (OnceBegin p) = ap (λ b. if (who == g) && not b then Some p else None) (some (once_ends p))
  unended g who _ = refl

  inner : (g : ℕ) → innermost g (before ++ a ∷ b ∷ rest) ≡ innermost g (before ++ b ∷ a ∷ rest)
  inner g = (λ i. last_of (λ (e : Event). unended g e.who e.op i) (before ++ a ∷ b ∷ rest))
      ∙ last_exchanged (λ (e : Event). unended_once g (before ++ b ∷ a ∷ rest) e.who e.op) a b rest before
      (elim (one_is_not_by a b both g) [
        | inl other ↦ inl (unended_none g (before ++ b ∷ a ∷ rest) a.who a.op other)
        | inr other ↦ inr (unended_none g (before ++ b ∷ a ∷ rest) b.who b.op other)
      ])

  answers : (e : Event) → AnswersTheSame e (before ++ a ∷ b ∷ rest) (before ++ b ∷ a ∷ rest)
  answers e = record {
    last_value = λ x on. values x;
    is_closed = λ c on. some (closes c);
    sends = λ c on. kinds (sends c);
    receives = λ c on. kinds (receives c);
    front = λ c on i. slice_get (sent_values c i) (kinds (receives c) i);
    buffered = λ c on i. kinds (sends c) i - kinds (receives c) i;
    is_held = λ l on i. nat_lt (kinds (unlocks l) i) (kinds (locks l) i);
    is_read_held = λ l on i. nat_lt (kinds (runlocks l) i) (kinds (rlocks l) i);
    is_begun = λ o on. some (once_begins o);
    is_ended = λ o on. some (once_ends o);
    innermost = λ g part. inner g;
    started = λ g part. some (starts g);
    has_exited = λ g part. exits g;
    runs = λ g part i. (g == 0 || some (starts g) i) && not (exits g i);
    over = λ i. exits 0 i || some is_fault i;
  }

  rules_same : (caps : ℕ → ℕ) (e : Event) (o : Op) → e.op ≡ o → op_rules caps (before ++ a ∷ b ∷ rest) e.who o ≡ op_rules caps (before ++ b ∷ a ∷ rest) e.who o
  rules_same caps e (Default cases) is = λ i. (
    22,
    list_any (λ case. ready_same caps (before ++ a ∷ b ∷ rest) (before ++ b ∷ a ∷ rest)
        (λ c. some (closes c)) (λ c i. kinds (sends c) i - kinds (receives c) i) case i) cases,
  ) ∷ []
  rules_same caps e (Fault cause) is = λ i. (
    23,
    not (cause_same caps (before ++ a ∷ b ∷ rest) (before ++ b ∷ a ∷ rest)
        (λ c. some (closes c)) (λ c i. kinds (sends c) i - kinds (receives c) i)
        (λ l i. nat_lt (kinds (unlocks l) i) (kinds (locks l) i)) (λ l i. nat_lt (kinds (runlocks l) i) (kinds (rlocks l) i)) cause i),
  ) ∷ []
  rules_same caps e o is = op_rules_same e (before ++ a ∷ b ∷ rest) (before ++ b ∷ a ∷ rest) (answers e) caps o is refl refl

  says : SaysTheSame (before ++ a ∷ b ∷ rest) (before ++ b ∷ a ∷ rest)
  says = record {
    last_value = values;
    is_closed = λ c. some (closes c);
    sends = λ c. kinds (sends c);
    receives = λ c. kinds (receives c);
    front = λ c i. slice_get (sent_values c i) (kinds (receives c) i);
    buffered = λ c i. kinds (sends c) i - kinds (receives c) i;
    is_held = λ l i. nat_lt (kinds (unlocks l) i) (kinds (locks l) i);
    is_read_held = λ l i. nat_lt (kinds (runlocks l) i) (kinds (rlocks l) i);
    is_begun = λ o. some (once_begins o);
    is_ended = λ o. some (once_ends o);
    innermost = inner;
    started = λ g. some (starts g);
    has_exited = exits;
    runs = λ g i. (g == 0 || some (starts g) i) && not (exits g i);
    over = λ i. exits 0 i || some is_fault i;
    length = length_exchanged before a b rest;
    broken = λ caps e. broken_by_rules e (before ++ a ∷ b ∷ rest) (before ++ b ∷ a ∷ rest) (answers e) caps (rules_same caps e e.op refl);
  }

pub exchanged_says_the_same : (before : List Event) (a b : Event) (rest : List Event) → are_independent a b ≡ true
    → SaysTheSame (before ++ a ∷ b ∷ rest) (before ++ b ∷ a ∷ rest)
exchanged_says_the_same before a b rest is = says before a b rest (apart a b is)
