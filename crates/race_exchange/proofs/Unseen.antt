-- What an event asks of the state is the same before and after an event that is independent of it.
use Rattle.std.proofs.Common.{◌≡◌, ℕ, suc, ◌+◌, ◌≤◌, ◌==◌, ◌||◌, ◌&&◌, if◌then◌else◌, not, Bool, true, false, nat_lt}
use Rattle.std.proofs.Common.{List, [], ◌∷◌, ◌++◌, Option, Some, None, unwrap_or, slice_get, filter_map, take, refl, sym, ap, ◌∙◌}
use Rattle.std.proofs.Common.{subst, arith, eq-eqb, eqb-true, add-zero, append-nil}
use Rattle.std.proofs.{Math.Bool.or-false, lemmas.Bool.{or_parts, not-false, both_ways, ltb-false, false_from_ne_true}}
use Rattle.std.{specs.Option.option_to_list, proofs.lemmas.Option.{none-some, same_Some}}
use Rattle.race_records.specs.declared.event.{Event.Event, Op.{Op, TheVariants.{OnceBegin, OnceEnd}}}
use Rattle.race_model.specs.Events.{At, gives, is_exit, is_fault, writes, sends, receives}
use Rattle.race_model.specs.Events.{once_begins, once_ends, count, has, has_exited}
use Rattle.race_model.specs.State.{over, written, last_value, sent, front}
use Rattle.race_model.specs.{State.{is_begun, is_ended, unended_once, innermost}, Legal.{rules, broken, IsLegal}}
use Rattle.race_model.proofs.LastOf.{IsLast, last_of_is, last_of_push_none}
use Rattle.race_model.proofs.CountSteps.{as_number, count_push, has_exited_push, kth_unique}
use Rattle.race_model.proofs.{StateSteps.{over_push, sent_push}, ChannelOrder.{rules_kept, RulesKept, kept_at}}
use Rattle.race_model.proofs.Indexes.{at_same}
use Rattle.race_exchange.specs.Independent.{is_default, stays}
use Rattle.race_exchange.proofs.{Exchanged.last_same}
use Rattle.race_exchange.proofs.OperationKinds.{written_none, sent_none}
use Rattle.race_exchange.proofs.OperationKinds.{unended_none}

-- words of state after one event more that isn't of their kind
pub count_kept : (kind : Op → Bool) (past : List Event) (a : Event) → kind a.op ≡ false → count kind (past ++ a ∷ []) ≡ count kind past
count_kept kind past a other = count_push kind past a ∙ ap (λ b. count kind past + as_number b) other ∙ add-zero (count kind past)

pub has_kept : (kind : Op → Bool) (past : List Event) (a : Event) → kind a.op ≡ false → has kind (past ++ a ∷ []) ≡ has kind past
has_kept kind past a other = ap (nat_lt 0) (count_kept kind past a other)

pub value_kept : (x : ℕ) (past : List Event) (a : Event) → writes x a.op ≡ false → last_value x (past ++ a ∷ []) ≡ last_value x past
value_kept x past a other = ap (λ o. unwrap_or o 0) (last_of_push_none (λ e. written x e.op) past a (written_none x a.op other))

pub front_kept : (c : ℕ) (past : List Event) (a : Event) → sends c a.op ≡ false → receives c a.op ≡ false → front c (past ++ a ∷ []) ≡ front c past
front_kept c past a no_send no_receive = λ i. slice_get (values i) (count_kept (receives c) past a no_receive i)
  where
    values : filter_map (λ e. sent c e.op) (past ++ a ∷ []) ≡ filter_map (λ e. sent c e.op) past
    values = sent_push c past a ∙ ap (λ o. filter_map (λ e. sent c e.op) past ++ option_to_list o) (sent_none c a.op no_send)
        ∙ append-nil (filter_map (λ e. sent c e.op) past)

pub exited_kept : (g : ℕ) (past : List Event) (a : Event) → ((a.who == g) && is_exit a.op) ≡ false → has_exited g (past ++ a ∷ []) ≡ has_exited g past
exited_kept g past a other = has_exited_push g past a ∙ ap (λ b. has_exited g past || b) other ∙ or-false (has_exited g past)

-- an event that stays where it is is the only one that ends the run
ends_nothing : (a : Event) → stays a ≡ false → (((a.who == 0) && is_exit a.op) || is_fault a.op) ≡ false
ends_nothing a moves =
    let first = or_parts (is_default a.op) (is_fault a.op || (is_exit a.op && (a.who == 0))) moves in
    let rest = or_parts (is_fault a.op) (is_exit a.op && (a.who == 0)) first.1 in
    turned (a.who == 0) (is_exit a.op) (is_fault a.op) rest.0 rest.1
  where
    turned : (b c d : Bool) → d ≡ false → (c && b) ≡ false → ((b && c) || d) ≡ false
    turned true true d is and = cc
    turned true false d is and = is
    turned false c d is and = is

pub over_kept : (past : List Event) (a : Event) → stays a ≡ false → over (past ++ a ∷ []) ≡ over past
over_kept past a moves = over_push past a ∙ ap (λ b. over past || b) (ends_nothing a moves) ∙ or-false (over past)

-- a goroutine that ends the function of a once began it
began : (g o : ℕ) (past : List Event) → innermost g past ≡ Some o → (k : ℕ) × (e : Event) × At past k e × (e.who ≡ g) × (e.op ≡ OnceBegin o)
began g o past is = go (innermost g past) (last_of_is (λ e. unended_once g past e.who e.op) past) is
  where
    by : (b c : Bool) (p : ℕ) → (if b && not c then Some p else None) ≡ Some o → (b ≡ true) × (p ≡ o)
    by true false p chosen = (refl, same_Some p o chosen)
    by true true p chosen = absurd (none-some o chosen)
    by false c p chosen = absurd (none-some o chosen)

    begins : (who : ℕ) (op : Op) → unended_once g past who op ≡ Some o → (who ≡ g) × (op ≡ OnceBegin o)
    begins who (OnceBegin p) given = let both = by (who == g) (is_ended p past) p given in (eqb-true who g both.0, ap OnceBegin both.1)
    begins who _ given = absurd (none-some o given)

    go : (answer : Option ℕ) → IsLast (λ e. unended_once g past e.who e.op) past answer → answer ≡ Some o
        → (k : ℕ) × (e : Event) × At past k e × (e.who ≡ g) × (e.op ≡ OnceBegin o)
    go None none given = absurd (none-some o given)
    go (Some p) (i, last) given = let both = begins last.element.who last.element.op (last.given ∙ given) in (i, last.element, last.at, both.0, both.1)

ends_own : (caps : ℕ → ℕ) (o : ℕ) (past : List Event) (g : ℕ) (op : Op) → once_ends o op ≡ true → RulesKept caps past g op → innermost g past ≡ Some o
ends_own caps o past g (OnceEnd p) same kept = by (innermost g past) refl (not-false _ (kept 0 (18, not (gives (innermost g past) p)) refl))
  where
    by : (answer : Option ℕ) → innermost g past ≡ answer → gives answer p ≡ true → innermost g past ≡ Some o
    by None is given = cc
    by (Some q) is given = is ∙ ap Some (eqb-true q p given ∙ eqb-true p o same)
ends_own caps o past g _ same kept = cc

module _ (caps : ℕ → ℕ) (past : List Event) (legal : IsLegal caps past) where
  -- in a legal list the function of a once is begun once
  first_begin : (o k : ℕ) (e : Event) → At past k e → e.op ≡ OnceBegin o → count (once_begins o) (take k past) ≡ 0
  first_begin o k e at is =
      let unbegun : is_begun o (take k past) ≡ false =
      subst (λ op. RulesKept caps (take k past) e.who op) is (kept_at caps past legal k e at) 0 (17, is_begun o (take k past)) refl in
      let few : count (once_begins o) (take k past) ≤ 0 = ltb-false 0 (count (once_begins o) (take k past)) unbegun in
      omega (arith, few)

  begins_it : (o : ℕ) (e : Event) → e.op ≡ OnceBegin o → once_begins o e.op ≡ true
  begins_it o e is = ap (once_begins o) is ∙ eq-eqb o o refl

  one_begin : (o k m : ℕ) (e s : Event) → At past k e → At past m s → e.op ≡ OnceBegin o → s.op ≡ OnceBegin o → e ≡ s
  one_begin o k m e s at there is also =
      let same : k ≡ m = kth_unique (once_begins o) 0 past k m e s at there
      (begins_it o e is, first_begin o k e at is) (begins_it o s also, first_begin o m s there also) in
      at_same past k e s at (ap (slice_get past) same ∙ there)

  -- so what another goroutine ends is no once that g began
  not_ended : (a : Event) (g : ℕ) → broken caps past a ≡ None → (a.who == g) ≡ false → (k : ℕ) (e : Event) → At past k e → (e.who == g) ≡ true
      → (o : ℕ) → e.op ≡ OnceBegin o → once_ends o a.op ≡ false
  not_ended a g kept other k e at own o is = false_from_ne_true (once_ends o a.op) (λ ends.
      let rules : RulesKept caps past a.who a.op = λ n r there. rules_kept (rules caps past a) (suc (suc n)) r kept there in
      let mine = began a.who o past (ends_own caps o past a.who a.op ends rules) in
      let same : e ≡ mine.1 = one_begin o k mine.0 e mine.1 at mine.2 is mine.4 in
      both_ways (a.who == g) other (ap (λ n. n == g) (sym mine.3) ∙ ap (λ (e : Event). e.who == g) (sym same) ∙ own))

  unended_kept : (a : Event) (g : ℕ) → broken caps past a ≡ None → (a.who == g) ≡ false → (k : ℕ) (e : Event) → At past k e
      → unended_once g (past ++ a ∷ []) e.who e.op ≡ unended_once g past e.who e.op
  unended_kept a g kept other k e at = by e.op refl (e.who == g) refl
    where
      by : (op : Op) → e.op ≡ op → (b : Bool) → (e.who == g) ≡ b → unended_once g (past ++ a ∷ []) e.who op ≡ unended_once g past e.who op
      by (OnceBegin o) is true own =
          ap (λ b. if (e.who == g) && not b then Some o else None) (has_kept (once_ends o) past a (not_ended a g kept other k e at own o is))
      by (OnceBegin o) is false own =
          (λ i. if own i && not (is_ended o (past ++ a ∷ [])) then Some o else None) ∙ sym (λ i. if own i && not (is_ended o past) then Some o else None)
      by _ is b own = refl

  pub innermost_kept : (a : Event) (g : ℕ) → broken caps past a ≡ None → (a.who == g) ≡ false → innermost g (past ++ a ∷ []) ≡ innermost g past
  innermost_kept a g kept other =
      last_of_push_none (λ e. unended_once g (past ++ a ∷ []) e.who e.op) past a (unended_none g (past ++ a ∷ []) a.who a.op other)
      ∙ last_same (λ (e : Event). unended_once g (past ++ a ∷ []) e.who e.op) (λ (e : Event). unended_once g past e.who e.op) past (unended_kept a g kept other)
