use Rattle.std.proofs.Common.{ℕ, List, Option, Some, ap, sym, subst, ◌∙◌}
use Rattle.std.specs.{Option.option_map, String.string_bytes, declared.alloc.Global.Global}
use Rattle.race_tool.specs.Draw.{Draws}
use Rattle.race_command.proofs.program.draw.Goals as goal

pub returns-in-Some : goal.returns-in-Some
returns-in-Some g c =
    subst (λ (name : Option (List ℕ)). Draws Global name c.args.svg g.R.Read.remaining g.W.Write.contents c.args.source.now c.run_draw.new.source
    c.args.sink.now c.run_draw.new.sink c.run_draw.result)
    (ap Some c.as_str.ensures.value ∙ sym (ap (option_map string_bytes) c.in-Some.is)) c.run_draw.ensures.draws

pub returns-in-None : goal.returns-in-None
returns-in-None g c =
    subst (λ (name : Option (List ℕ)). Draws Global name c.args.svg g.R.Read.remaining g.W.Write.contents c.args.source.now
    c.run_draw-in-None.new.source c.args.sink.now c.run_draw-in-None.new.sink c.run_draw-in-None.result)
    (sym (ap (option_map string_bytes) c.in-None.is)) c.run_draw-in-None.ensures.draws
