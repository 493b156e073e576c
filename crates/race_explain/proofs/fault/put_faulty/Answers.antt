use Rattle.race_explain.proofs.MarkedLemmas.{marked_put}
use Rattle.race_explain.proofs.fault.put_faulty.Goals as goal

pub returns : goal.returns
returns g c =
    marked_put c.args.faulty.now.line.now c.column_of.result c.args.faulty.now.fault.cause c.args.out.now.items c.put_line.new.out.items _
    c.extend_from_slice.new.self.items c.column_of.ensures c.in_ok-put_line.ensures c.in_ok-extend_from_slice.ensures.items
