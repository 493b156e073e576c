-- The table of what operations say, and its way back. Where a proof has a last line `_`, it serves all operations that no line before it names.
use Rattle.std.proofs.Common.{◌≡◌, ◌∙◌, ℕ, Bool, false, if◌then◌else◌, option_map, List, [], ◌∷◌, Option, Some, None}
use Rattle.std.proofs.{Common.{true, true≢false, refl, sym, ap}, lemmas.Option.{none-some, same_Some}}
use Rattle.race_records.specs.declared.event.Op.{Op, TheVariants.{Go, Exit, Read, Write, Send, Recv, Meet, RecvClosed}}
use Rattle.race_records.specs.declared.event.Op.TheVariants.{Close, Default, Lock, Unlock, RLock, RUnlock, TryLock}
use Rattle.race_records.specs.declared.event.Op.TheVariants.{TryRLock, TryFail, OnceBegin, OnceEnd, OnceDone, Fault}
use Rattle.race_records.specs.declared.{kind.{Kind.Kind, Named.Named}, operands.{Operand.Operand, OpKeyword.OpKeyword}}
use Rattle.race_records.specs.{Declarations.{is_named, number_of}, Operands.{says, op_by, object_alone, object_value}}
use Rattle.race_records.specs.Operands.{exit_of, meet_of, default_of, fault_of, suit, operand_kinds}

-- what an operation says leads back to it
pub says_again : (op : Op) → op_by (says op).0 (says op).1 ≡ Some op
says_again (Go h) = refl
says_again _ = refl

-- its operands are those that its word wants
pub says_suits : (op : Op) → suit (operand_kinds (says op).0) (says op).1 ≡ true
says_suits (Go h) = refl
says_suits _ = refl

-- what is named, by its kind and its number
abbrev pub named_by : Kind → ℕ → Named
named_by Kind.Goroutine n = Named.Goroutine n
named_by Kind.Var n = Named.Var n
named_by Kind.Chan n = Named.Chan n
named_by Kind.Lock n = Named.Lock n
named_by Kind.Once n = Named.Once n

named_again : (kind : Kind) (named : Named) → is_named kind named ≡ true → named ≡ named_by kind (number_of named)
named_again Kind.Goroutine (Named.Goroutine n) is = refl
named_again Kind.Var (Named.Var n) is = refl
named_again Kind.Chan (Named.Chan n) is = refl
named_again Kind.Lock (Named.Lock n) is = refl
named_again Kind.Once (Named.Once n) is = refl
named_again _ _ is = absurd (true≢false (sym is))

-- what a choice gives was chosen
chosen : {X : Type 0} (b : Bool) (x y : X) → ◌≡◌ {A = Option X} (if b then Some x else None) (Some y) → (b ≡ true) × (x ≡ y)
chosen true x y e = (refl, same_Some x y e)
chosen false x y e = absurd (none-some y e)

pub alone_again : (kind : Kind) (operands : List Operand) (n : ℕ) → object_alone kind operands ≡ Some n → operands ≡ Operand.Object (named_by kind n) ∷ []
alone_again kind (Operand.Object named ∷ []) n e =
    let is = chosen (is_named kind named) (number_of named) n e in
    ap (λ name. Operand.Object name ∷ []) (named_again kind named is.0 ∙ ap (named_by kind) is.1)
alone_again kind _ n e = absurd (none-some n e)

pub valued_again : (kind : Kind) (operands : List Operand) (p : ℕ × ℕ) → object_value kind operands ≡ Some p
    → operands ≡ Operand.Object (named_by kind p.0) ∷ Operand.Value p.1 ∷ []
valued_again kind (Operand.Object named ∷ Operand.Value v ∷ []) p e =
    let is = chosen (is_named kind named) (number_of named, v) p e in
    (λ i. Operand.Object ((named_again kind named is.0 ∙ ap (λ (q : ℕ × ℕ). named_by kind q.0) is.1) i) ∷ Operand.Value (is.1 i).1 ∷ [])
valued_again kind _ p e = absurd (none-some p e)

-- where operands of a form give an operation, it says these operands
made_says : {X : Type 0} (make : X → Op) (said : X → OpKeyword × List Operand) → ((x : X) → says (make x) ≡ said x)
    → (found : Option X) (op : Op) (keyword : OpKeyword) (operands : List Operand)
    → ((x : X) → found ≡ Some x → said x ≡ (keyword, operands)) → option_map make found ≡ Some op → says op ≡ (keyword, operands)
made_says make said is (Some x) op keyword operands again e = ap says (sym (same_Some (make x) op e)) ∙ is x ∙ again x refl
made_says make said is None op keyword operands again e = absurd (none-some op e)

-- the operation that says so says so
pub op_by_says : (keyword : OpKeyword) (operands : List Operand) (op : Op) → op_by keyword operands ≡ Some op → says op ≡ (keyword, operands)
op_by_says keyword operands op e = by keyword e
  where
    is : (made : Op) → Some made ≡ Some op → says op ≡ says made
    is made e = ap says (sym (same_Some made op e))

    alone : (make : ℕ → Op) (keyword : OpKeyword) (kind : Kind) → ((n : ℕ) → says (make n) ≡ (keyword, Operand.Object (named_by kind n) ∷ []))
        → option_map make (object_alone kind operands) ≡ Some op → says op ≡ (keyword, operands)
    alone make keyword kind says_it e = made_says make (λ n. (keyword, Operand.Object (named_by kind n) ∷ [])) says_it
        (object_alone kind operands) op keyword operands (λ n found i. (keyword, sym (alone_again kind operands n found) i)) e

    valued : (make : ℕ × ℕ → Op) (keyword : OpKeyword) (kind : Kind) → ((p : ℕ × ℕ) → says (make p) ≡ (keyword, Operand.Object (named_by kind p.0) ∷ Operand.Value p.1 ∷ []))
        → option_map make (object_value kind operands) ≡ Some op → says op ≡ (keyword, operands)
    valued make keyword kind says_it e =
        made_says make (λ p. (keyword, Operand.Object (named_by kind p.0) ∷ Operand.Value p.1 ∷ [])) says_it
        (object_value kind operands) op keyword operands (λ p found i. (keyword, sym (valued_again kind operands p found) i)) e

    exits : (operands : List Operand) → exit_of operands ≡ Some op → says op ≡ (OpKeyword.Exit, operands)
    exits [] e = is _ e
    exits _ e = absurd (none-some op e)

    meets : (operands : List Operand) → meet_of operands ≡ Some op → says op ≡ (OpKeyword.Meet, operands)
    meets (Operand.Object (Named.Goroutine r) ∷ Operand.Object (Named.Chan c) ∷ Operand.Value v ∷ []) e = is _ e
    meets _ e = absurd (none-some op e)

    defaults : (operands : List Operand) → default_of operands ≡ Some op → says op ≡ (OpKeyword.Default, operands)
    defaults (Operand.Cases cases ∷ []) e = is _ e
    defaults _ e = absurd (none-some op e)

    faults : (operands : List Operand) → fault_of operands ≡ Some op → says op ≡ (OpKeyword.Fault, operands)
    faults (Operand.Cause cause ∷ []) e = is _ e
    faults _ e = absurd (none-some op e)

    by : (keyword : OpKeyword) → op_by keyword operands ≡ Some op → says op ≡ (keyword, operands)
    by OpKeyword.Go e = alone Go OpKeyword.Go Kind.Goroutine (λ n. refl) e
    by OpKeyword.Exit e = exits operands e
    by OpKeyword.Read e = valued (λ p. Read p.0 p.1) OpKeyword.Read Kind.Var (λ p. refl) e
    by OpKeyword.Write e = valued (λ p. Write p.0 p.1) OpKeyword.Write Kind.Var (λ p. refl) e
    by OpKeyword.Send e = valued (λ p. Send p.0 p.1) OpKeyword.Send Kind.Chan (λ p. refl) e
    by OpKeyword.Recv e = valued (λ p. Recv p.0 p.1) OpKeyword.Recv Kind.Chan (λ p. refl) e
    by OpKeyword.Meet e = meets operands e
    by OpKeyword.RecvClosed e = alone RecvClosed OpKeyword.RecvClosed Kind.Chan (λ n. refl) e
    by OpKeyword.Close e = alone Close OpKeyword.Close Kind.Chan (λ n. refl) e
    by OpKeyword.Default e = defaults operands e
    by OpKeyword.Lock e = alone Lock OpKeyword.Lock Kind.Lock (λ n. refl) e
    by OpKeyword.Unlock e = alone Unlock OpKeyword.Unlock Kind.Lock (λ n. refl) e
    by OpKeyword.RLock e = alone RLock OpKeyword.RLock Kind.Lock (λ n. refl) e
    by OpKeyword.RUnlock e = alone RUnlock OpKeyword.RUnlock Kind.Lock (λ n. refl) e
    by OpKeyword.TryLock e = alone TryLock OpKeyword.TryLock Kind.Lock (λ n. refl) e
    by OpKeyword.TryRLock e = alone TryRLock OpKeyword.TryRLock Kind.Lock (λ n. refl) e
    by OpKeyword.TryFail e = alone TryFail OpKeyword.TryFail Kind.Lock (λ n. refl) e
    by OpKeyword.OnceBegin e = alone OnceBegin OpKeyword.OnceBegin Kind.Once (λ n. refl) e
    by OpKeyword.OnceEnd e = alone OnceEnd OpKeyword.OnceEnd Kind.Once (λ n. refl) e
    by OpKeyword.OnceDone e = alone OnceDone OpKeyword.OnceDone Kind.Once (λ n. refl) e
    by OpKeyword.Fault e = faults operands e

-- operands that the word wants are an operation's
pub op_is_there : (keyword : OpKeyword) (operands : List Operand) → suit (operand_kinds keyword) operands ≡ true → (op : Op) × (op_by keyword operands ≡ Some op)
op_is_there OpKeyword.Go (Operand.Object (Named.Goroutine h) ∷ []) e = (Go h, refl)
op_is_there OpKeyword.Exit [] e = (Exit, refl)
op_is_there OpKeyword.Read (Operand.Object (Named.Var x) ∷ Operand.Value v ∷ []) e = (Read x v, refl)
op_is_there OpKeyword.Write (Operand.Object (Named.Var x) ∷ Operand.Value v ∷ []) e = (Write x v, refl)
op_is_there OpKeyword.Send (Operand.Object (Named.Chan c) ∷ Operand.Value v ∷ []) e = (Send c v, refl)
op_is_there OpKeyword.Recv (Operand.Object (Named.Chan c) ∷ Operand.Value v ∷ []) e = (Recv c v, refl)
op_is_there OpKeyword.Meet (Operand.Object (Named.Goroutine r) ∷ Operand.Object (Named.Chan c) ∷ Operand.Value v ∷ []) e = (Meet r c v, refl)
op_is_there OpKeyword.RecvClosed (Operand.Object (Named.Chan c) ∷ []) e = (RecvClosed c, refl)
op_is_there OpKeyword.Close (Operand.Object (Named.Chan c) ∷ []) e = (Close c, refl)
op_is_there OpKeyword.Default (Operand.Cases cases ∷ []) e = (Default cases, refl)
op_is_there OpKeyword.Lock (Operand.Object (Named.Lock l) ∷ []) e = (Lock l, refl)
op_is_there OpKeyword.Unlock (Operand.Object (Named.Lock l) ∷ []) e = (Unlock l, refl)
op_is_there OpKeyword.RLock (Operand.Object (Named.Lock l) ∷ []) e = (RLock l, refl)
op_is_there OpKeyword.RUnlock (Operand.Object (Named.Lock l) ∷ []) e = (RUnlock l, refl)
op_is_there OpKeyword.TryLock (Operand.Object (Named.Lock l) ∷ []) e = (TryLock l, refl)
op_is_there OpKeyword.TryRLock (Operand.Object (Named.Lock l) ∷ []) e = (TryRLock l, refl)
op_is_there OpKeyword.TryFail (Operand.Object (Named.Lock l) ∷ []) e = (TryFail l, refl)
op_is_there OpKeyword.OnceBegin (Operand.Object (Named.Once o) ∷ []) e = (OnceBegin o, refl)
op_is_there OpKeyword.OnceEnd (Operand.Object (Named.Once o) ∷ []) e = (OnceEnd o, refl)
op_is_there OpKeyword.OnceDone (Operand.Object (Named.Once o) ∷ []) e = (OnceDone o, refl)
op_is_there OpKeyword.Fault (Operand.Cause cause ∷ []) e = (Fault cause, refl)
op_is_there _ _ e = absurd (true≢false (sym e))
