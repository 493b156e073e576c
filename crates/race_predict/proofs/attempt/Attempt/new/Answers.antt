use Rattle.std.proofs.Common.{ap, subst, ◌∙◌, []}
use Rattle.race_records.specs.{declared.kind.Kind.Kind, Declarations.{DeclsState, counts_of}}
use Rattle.race_legal.specs.StandsFor.{StandsFor}
use Rattle.race_predict.proofs.AttemptLemmas.{starts}
use Rattle.race_predict.proofs.attempt.Attempt.new.Goals as goal

pub returns : goal.returns
returns g c =
    starts c.args.recorded.now _ c.count.result
    (subst (λ (d : DeclsState). StandsFor d.declarations c.in_ok-new.field-0 []) c.decls.ensures.decls c.in_ok-new.ensures.stands)
    (c.in_ok-vec.ensures.items_if_clones_equal (λ y e. e)) (c.count.ensures.count ∙ ap (λ (d : DeclsState). counts_of d.declarations Kind.Goroutine) c.decls-2.ensures.decls)
