use Rattle.std.proofs.Common.{◌∙◌}
use Rattle.race_explore.proofs.ScriptLemmas.{opens_program, none_out}
use Rattle.race_explore.proofs.walked.program_hub.Goals as goal

pub returns-in-Ok-clause-opens : goal.returns-in-Ok-clause-opens
returns-in-Ok-clause-opens g c =
    opens_program c.args.program.now c.args.limit c.in_ok-decls.decls c.in_ok-scripts.scripts.items c.in-Ok.hub (c.in_ok-decls.ensures ∙ c.decls.ensures.decls)
    c.in_ok-scripts.ensures c.in-Ok.ensures.ok

pub returns-in-Ok-clause-back : goal.returns-in-Ok-clause-back
returns-in-Ok-clause-back g c = none_out c.in_ok-decls.decls c.args.limit c.in_ok-scripts.scripts.items c.in-Ok.hub c.in-Ok.ensures.ok
