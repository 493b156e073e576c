-- The last of the stack is the once that the word says.
use Rattle.std.proofs.Common.{◌∙◌, sym, ap}
use Rattle.race_legal.{specs.ReplayState.{ReplayState, innermost_in}, proofs.OnceWords.innermost_is}
use Rattle.race_legal.proofs.replay.Replay.innermost.Goals as goal

pub returns : goal.returns
returns g c declarations past S =
    c.innermost.ensures
    ∙ ap (λ (k : ReplayState). innermost_in k.goroutines c.args.goroutine) c.self.view_is
    ∙ sym (innermost_is declarations c.args.self.now past S c.args.goroutine c.requires)
