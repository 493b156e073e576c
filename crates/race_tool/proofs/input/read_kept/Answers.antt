-- A block is fed and kept, and the reader of lines stands for all that was read.
use Rattle.std.proofs.{Common.{Bool, Ok, refl, ap, ◌∙◌, arith}, lemmas.Result.{IfOk-weaker, IfErr-weaker}}
use Rattle.race_records.specs.Devices.{unread, source_reads}
use Rattle.race_text.specs.Fed.{IsFed as Stands}
use Rattle.race_tool.proofs.InputLemmas.{fed_none, fed_more, read_more}
use Rattle.race_tool.proofs.InputEnds.{no_text, keeps_as, reads_failed, reads_ended, reads_faulty}
use Rattle.race_tool.proofs.input.read_kept.Goals as goal

pub loop-init : goal.loop-init
unfolding fed_none
loop-init g c = record {
  fed = fed_none g.G.Grammar.causes (unread g.R.Read.remaining c.args.source.now)
      (Stands g.G.Grammar.causes (g.G.Grammar.stands_for g.G.Grammar.at_start) c.new-reader.result) c.new-reader.ensures.stands;
  kept = c.requires.none;
  first = λ none. refl;
  reads = λ some. absurd (omega arith);
  calm = refl;
  room = let size = c.in-Ok.ensures in (omega (arith, size), omega (arith, size));
  ready = c.new-reader.ensures.ready;
}

pub returns-in_err-feed_block : goal.returns-in_err-feed_block
returns-in_err-feed_block g c =
    let told = c.in_err-feed_block in
    record {
      reads = reads_failed c.loop.source c.loop.invariant.fed c.loop.invariant.calm told.field-0.0
          c.from_residual.result c.from_residual.ensures.1 told.ensures.calm told.ensures.failed told.ensures.kept told.ensures.ends;
      keeps = no_text c.from_residual.result told.field-0.0 c.from_residual.ensures.1 _;
    }

pub finish-requires : goal.finish-requires
finish-requires g c = (g.G.Grammar.at_start, c.in_ok-feed_block.ensures.ready g.G.Grammar.at_start c.loop.invariant.ready)

pub returns-in-Ok-false : goal.returns-in-Ok-false
returns-in-Ok-false g c =
    let feeds = c.in_ok-feed_block.ensures in
    let apart = c.set_memory_apart.ensures in
    reads_ended c.loop.source c.loop.invariant.fed c.loop.invariant.calm g.K.Keeper.has_kept _ _ c.loop.invariant.kept (feeds.calm (λ e. cc))
    (keeps_as (c.in-Ok-false.is ∙ ap (λ (b : Bool). Ok b) c.in-Ok-false.field-0-test) (feeds.ok g.G.Grammar.at_start))
    c.finish.result c.set_memory_apart.result
    (IfOk-weaker c.finish.result _ _ (λ whole each. each g.G.Grammar.at_start) c.finish.ensures.text)
    (IfErr-weaker c.finish.result _ _ (λ told each. each g.G.Grammar.at_start) c.finish.ensures.fault) apart.same apart.others apart.memory

pub returns-in-Err : goal.returns-in-Err
returns-in-Err g c =
    let feeds = c.in_ok-feed_block.ensures in
    reads_faulty c.loop.source c.loop.invariant.fed c.loop.invariant.calm g.K.Keeper.has_kept _ _ c.loop.invariant.kept (feeds.calm (λ e. cc))
    c.in-Err.fault (keeps_as c.in-Err.is (feeds.ok g.G.Grammar.at_start))

pub loop-preserved : goal.loop-preserved
unfolding fed_more
loop-preserved g c =
    let feeds = c.in_ok-feed_block.ensures in
    let both = keeps_as (c.in-Ok-true.is ∙ ap (λ (b : Bool). Ok b) c.in-Ok-true.field-0-test) (feeds.ok g.G.Grammar.at_start) in
    let held = c.loop.invariant in
    record {
      fed = fed_more g.G.Grammar.causes _ _ _ _ _ _ held.fed both.feeds;
      kept = both.keeps held.fed.bytes held.kept;
      first = λ none. absurd (omega arith);
      reads = λ some. read_more c.loop.counter (source_reads c.args.source.now)
          (source_reads c.loop.source) (source_reads c.feed_block.new.source) held.first held.reads feeds.reads;
      calm = feeds.calm (λ e. cc) ∙ held.calm;
      room = held.room;
      ready = feeds.ready g.G.Grammar.at_start held.ready;
    }
