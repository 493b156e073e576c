use Rattle.std.proofs.Common.{sym, ap, ◌∙◌, drop, ◌+◌}
use Rattle.race_text.specs.{Words.parts_left, Least.lesser, declared.form.Field.TheVariants.NewName}
use Rattle.race_text.proofs.CauseLemmas.{cause_on, cause_on-more, cause_on-no_words}
use Rattle.race_text.proofs.fields.fields_cause.Goals as goal

pub loop-field-preserved : goal.loop-field-preserved
loop-field-preserved g c =
    let i = c.loop-field.field-index in
    let ds = c.args.decls.now.declarations in
    ap (λ o. cause_on ds o (drop (i + 1) c.args.fields.now) (parts_left 32 c.cut_at.result.1))
    (c.lesser-least.ensures ∙ ap (lesser c.loop-field.least) c.field_cause.ensures)
    ∙ sym (cause_on-more ds c.loop-field.least c.args.fields.now i NewName (parts_left 32 c.loop-field.left)
    c.cut_at.result.0.now (parts_left 32 c.cut_at.result.1) c.loop-field-test.true
    (ap (parts_left 32) c.in-Some.is ∙ c.cut_at.ensures))
    ∙ c.loop-field.invariant

pub returns-in-None : goal.returns-in-None
returns-in-None g c =
    sym (cause_on-no_words c.args.decls.now.declarations c.loop-field.least (drop c.loop-field.field-index c.args.fields.now))
    ∙ ap (λ o. cause_on c.args.decls.now.declarations c.loop-field.least (drop c.loop-field.field-index c.args.fields.now) (parts_left 32 o)) (sym c.in-None.is)
    ∙ c.loop-field.invariant
