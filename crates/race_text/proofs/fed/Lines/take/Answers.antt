-- What was kept of a line goes on in the first part of the piece.
use Rattle.std.proofs.Common.{◌++◌}
use Rattle.race_text.proofs.FedLemmas.{last_is, kept_unended, memory_told, line_told, match_err, match_map}
use Rattle.race_text.proofs.LinesTaken.{seam_kept, uncut, line_goes}
use Rattle.race_text.proofs.fed.Lines.take.Goals as goal

pub returns-then-is_between_lines-clause-taken : goal.returns-then-is_between_lines-clause-taken
returns-then-is_between_lines-clause-taken g c =
    rw (c.is_between_lines.ensures.0 c.if-is_between_lines.true)
    (match_map _ _ _ _ c.take_whole.result (λ _ takes. takes) (λ _ tells k. (tells k).told) c.take_whole.ensures.taken)

pub returns-then-is_between_lines-clause-owed : goal.returns-then-is_between_lines-clause-owed
returns-then-is_between_lines-clause-owed g c =
    match_map _ _ _ _ c.take_whole.result (λ _ _. tt) (λ _ tells none k. (tells k).owed) c.take_whole.ensures.taken

pub returns-in_err-keep-clause-taken : goal.returns-in_err-keep-clause-taken
returns-in_err-keep-clause-taken g c =
    match_err _ _ c.from_residual.result c.in_err-keep.field-0.0 c.from_residual.ensures.1
    (λ k whole more t. memory_told g.G.Grammar.causes whole _ _ t c.in_err-keep.field-0.0 (c.in_err-keep.ensures.told k))

pub returns-in_err-take_part-in-Some-clause-taken : goal.returns-in_err-take_part-in-Some-clause-taken
returns-in_err-take_part-in-Some-clause-taken g c =
    let told = c.in_err-take_part-in-Some.field-0.0 in
    let ends = seam_kept c.args.self.now.part.items c.args.piece.now c.cut_at.result.0.now
    c.cut_at.result.1 c.in-Some.others c.requires.1.unended c.cut_at.ensures c.in-Some.is in
    match_err _ _ c.from_residual-in_err-take_part-in-Some.result told c.from_residual-in_err-take_part-in-Some.ensures.1
    (λ k whole more t. line_told g.G.Grammar.causes whole _ _ t _ (c.in-Some.others.now ++ more) (ends more) told
    (rw (c.in_ok-keep.ensures.same, c.in_ok-keep.ensures.kept) at (c.in_err-take_part-in-Some.ensures.taken k)))

pub returns-in-None-clause-taken : goal.returns-in-None-clause-taken
returns-in-None-clause-taken g c = λ k whole more t.
    let end = last_is c.args.piece.now c.cut_at.result.0.now (uncut c.args.piece.now c.cut_at.result.0.now c.cut_at.result.1 c.cut_at.ensures c.in-None.is) in
    rw (c.in_ok-keep.ensures.same, c.in_ok-keep.ensures.kept, end) t

pub returns-in-None-clause-some : goal.returns-in-None-clause-some
returns-in-None-clause-some g c = λ k some. rw c.in_ok-keep.ensures.same some

pub returns-in-None-clause-unended : goal.returns-in-None-clause-unended
returns-in-None-clause-unended g c =
    let last = uncut c.args.piece.now c.cut_at.result.0.now c.cut_at.result.1 c.cut_at.ensures c.in-None.is in
    rw c.in_ok-keep.ensures.kept (kept_unended c.args.self.now.part.items c.args.piece.now c.cut_at.result.0.now c.requires.1.unended last)

pub returns-in_ok-take_part-in-Some-clause-taken : goal.returns-in_ok-take_part-in-Some-clause-taken
returns-in_ok-take_part-in-Some-clause-taken g c =
    let ends = seam_kept c.args.self.now.part.items c.args.piece.now c.cut_at.result.0.now
    c.cut_at.result.1 c.in-Some.others c.requires.1.unended c.cut_at.ensures c.in-Some.is in
    let next = λ (k : g.G.Grammar.Known). line_goes g.G.Grammar.causes _ _ _ _ c.in-Some.others.now ends
    (rw (c.in_ok-keep.ensures.same, c.in_ok-keep.ensures.kept) at (c.in_ok-take_part-in-Some.ensures.taken k)) in
    match_map _ _ _ _ c.take_whole-in-Some.result
    (λ _ takes k whole more t. takes k whole more (next k whole more t))
    (λ _ tells k whole more t. (tells k).told whole more (next k whole more t))
    c.take_whole-in-Some.ensures.taken
