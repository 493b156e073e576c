use Rattle.std.proofs.Common.{◌∙◌, sym, ap, rules}
use Rattle.race_text.specs.{Words.parts_left, Declaring.{with_declared, cause_of}}
use Rattle.race_text.proofs.DeclarationLemmas.{InHand, in_hand, made_in_hand}
use Rattle.race_records.specs.Declarations.{with_declaration, decl_fault}
use Rattle.race_text.proofs.declaration.declare_other.Goals.{After-cut_at}
use Rattle.race_text.proofs.declaration.declare_other.Goals as goal

module _ (g : _) (c : goal.After-cut_at g) where
  hand : InHand c.args.decls.now.declarations c.args.keyword (parts_left 32 c.args.rest) c.cut_at.result.0.now c.cut_at.result.1
  hand = in_hand _ _ _ _ _ (ap (parts_left 32) c.unwrap.ensures ∙ c.cut_at.ensures) (sym c.word_cause.ensures ∙ c.in_default.is)

pub unwrap-object-requires : goal.unwrap-object-requires
unwrap-object-requires g c = search (rules, (hand g (goal.at.unwrap-object-requires g c).After-cut_at).read)

pub as_text-requires : goal.as_text-requires
as_text-requires g c = (hand g (goal.at.as_text-requires g c).After-cut_at).visible

pub returns-in-Ok-clause-added : goal.returns-in-Ok-clause-added
returns-in-Ok-clause-added g c =
    let hand = hand g (goal.at.returns-in-Ok-clause-added g c).After-cut_at in
    let made = made_in_hand _ _ _ _ _ hand c.unwrap-object.result (sym c.object_read.ensures ∙ c.unwrap-object.ensures) in
    c.in-Ok.ensures.added ∙ ap (λ w. with_declaration c.args.decls.now w c.unwrap-object.result) c.as_text.ensures
    ∙ ap (with_declared c.args.decls.now) (sym made.0)

pub returns-in-Err-clause-allowed : goal.returns-in-Err-clause-allowed
returns-in-Err-clause-allowed g c = λ none.
    let hand = hand g (goal.at.returns-in-Err-clause-allowed g c).After-cut_at in
    let made = made_in_hand _ _ _ _ _ hand c.unwrap-object.result (sym c.object_read.ensures ∙ c.unwrap-object.ensures) in
    c.cause_of.ensures
    ∙ ap cause_of (c.in-Err.ensures.allowed (ap (decl_fault c.args.decls.now.declarations c.unwrap-object.result) c.as_text.ensures ∙ made.1))
