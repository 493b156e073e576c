use Rattle.std.proofs.{Common.{ℕ, List, sym, subst}, lemmas.Result.IfOk-at_ok}
use Rattle.race_tool.specs.Explain.{IsShownAlike}
use Rattle.race_tool.proofs.ExplainLemmas.{explained_sent, explained_none, explained_unread}
use Rattle.race_tool.proofs.explain.run_explain.Goals as goal

pub returns-in-Ok-explain : goal.returns-in-Ok-explain
returns-in-Ok-explain g c =
    let both = IfOk-at_ok _ c.in-Ok.is c.read_kept.ensures.keeps in
    record {
      explains = explained_sent _ g.R.Read.remaining g.W.Write.contents c.args.source.now c.read_kept.new.source c.args.sink.now c.read_kept.result
          c.read_kept.ensures.reads c.in-Ok.text c.in-Ok.is both.0 c.in-Ok-explain.explained c.send.new.sink c.send.result
          (λ whole reads alike. c.in-Ok-explain.ensures whole reads (subst (λ (bytes : List ℕ). IsShownAlike bytes whole c.in-Ok.text) (sym both.1) alike))
          c.send.ensures;
    }

pub returns-in-Err-explain : goal.returns-in-Err-explain
returns-in-Err-explain g c = record {
  explains = explained_none _ g.R.Read.remaining g.W.Write.contents c.args.source.now c.read_kept.new.source c.args.sink.now c.read_kept.result
      c.read_kept.ensures.reads c.in-Ok.text c.in-Ok.is;
}

pub returns-in-Err : goal.returns-in-Err
returns-in-Err g c = record {
  explains = explained_unread _ g.R.Read.remaining g.W.Write.contents c.args.source.now c.read_kept.new.source c.args.sink.now c.read_kept.result
      c.read_kept.ensures.reads c.in-Err.fault c.in-Err.is c.status_of_fault.result c.status_of_fault.ensures;
}
