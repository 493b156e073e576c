use Rattle.std.proofs.{Common.{◌≡◌, ◌-◌, min, take, drop, length, ap, ◌∙◌, arith}, lemmas.List.{length-drop, take_all, take_min}}
use Rattle.race_explain.proofs.line.window.Goals as goal

pub returns : goal.returns
returns c =
    let rest = drop c.args.from c.args.line.now in
    let count : c.min.result ≡ min 200 (length rest) = omega (arith, c.min.ensures, length-drop c.args.from c.args.line.now) in
    ap (take c.min.result) (take_all (length c.args.line.now - c.args.from) rest (omega (arith, length-drop c.args.from c.args.line.now)))
    ∙ ap (λ n. take n rest) count ∙ take_min 200 rest
