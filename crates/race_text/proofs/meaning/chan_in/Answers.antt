use Rattle.std.proofs.Common.{sym, arith}
use Rattle.race_text.proofs.CaseWords.{chan_is_declared}
use Rattle.race_text.proofs.meaning.chan_in.Goals as goal

pub prove-unreachable-requires : goal.prove-unreachable-requires
prove-unreachable-requires g c =
    let less = chan_is_declared c.args.decls.now.declarations c.args.word.now c.in-Ok.named (sym c.in-Ok.ensures) in
    omega (arith, less, c.number.ensures, c.count.ensures.count, c.if-prove.true)
