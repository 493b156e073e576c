use Rattle.std.proofs.Common.{subst}
use Rattle.race_records.specs.Declarations.{DeclsState}
use Rattle.race_text.specs.Output.{Writes}
use Rattle.race_tool.specs.Explore.{runs_text}
use Rattle.race_tool.proofs.explore.ExploredProgramShown.write.Goals as goal

pub returns : goal.returns
returns g c =
    subst (λ (d : DeclsState). Writes g.W.Write.contents c.write_explored.result c.args.sink.now c.write_explored.new.sink (runs_text d c.args.self.now.explored))
    c.decls.ensures.decls c.write_explored.ensures
