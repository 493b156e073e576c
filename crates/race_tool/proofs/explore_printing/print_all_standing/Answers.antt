use Rattle.std.proofs.Common.{◌≡◌, Ok, List, codes, take, sym, ◌∙◌, subst}
use Rattle.std.proofs.lemmas.List.{take_all}
use Rattle.race_records.specs.Page.{Printing}
use Rattle.race_explore.specs.declared.stuck.Standing.{Standing}
use Rattle.race_tool.{specs.Explore.{all_standing, standing_text}, proofs.ListedLemmas.{item_behind, item_breaks_off, next_mark}}
use Rattle.race_tool.proofs.explore_printing.print_all_standing.Goals as goal

pub loop-one-preserved : goal.loop-one-preserved
loop-one-preserved g c =
    let l = c.loop-one in
    record {
      printed = item_behind (standing_text c.args.decls.now) (codes ": ") (codes ", ") c.args.standing.now l.one-index _ c.loop-one-test.true l.mark.now
          l.invariant.mark l.invariant.printed c.in_default.ensures;
      mark = c.as_slice-mark-in-loop-one.ensures ∙ sym (next_mark (codes ": ") (codes ", ") l.one-index);
    }

pub returns-in-Err : goal.returns-in-Err
returns-in-Err g c =
    let l = c.loop-one in
    item_breaks_off (standing_text c.args.decls.now) (codes ": ") (codes ", ") c.args.standing.now l.one-index _ c.loop-one-test.true l.mark.now
    l.invariant.mark l.invariant.printed c.in-Err.ensures

pub returns : goal.returns
returns g c =
    let standing = c.args.standing.now in
    let all : take c.loop-one.one-index standing ≡ standing = take_all c.loop-one.one-index standing c.loop-one-test.false in
    subst (λ (l : List Standing). Printing g.W.Write.contents (Ok tt) c.args.sink.now c.loop-one.sink c.args.page.now c.loop-one.page
    (all_standing c.args.decls.now l)) all c.loop-one.invariant.printed
