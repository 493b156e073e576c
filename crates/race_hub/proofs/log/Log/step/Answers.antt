use Rattle.std.proofs.{Common.{◌<◌, ◌∙◌, Some, length, slice_get, sym, ap, arith}, lemmas.Option.slice_get-get_or}
use Rattle.race_hub.{specs.{declared.log.Told.Told, Log.LogState}, proofs.LogLemmas.{steps_len, step_at}}
use Rattle.race_hub.proofs.log.Log.step.Goals as goal

pub get-requires : goal.get-requires
get-requires g c =
    let len = steps_len c.self.inside.asked.items c.self.inside.told.items c.self.invariant in
    let same = ap (λ (l : LogState). length l.items) c.self.view_is in
    omega (arith, len, same, c.self.invariant, c.requires)

pub returns : goal.returns
returns g c =
    let asked = c.self.inside.asked.items in
    let told = c.self.inside.told.items in
    let len = steps_len asked told c.self.invariant in
    let same = ap (λ (l : LogState). length l.items) c.self.view_is in
    let within : c.args.index < length told = omega (arith, len, same, c.requires) in
    let that = slice_get-get_or told c.args.index c.index.result.now within ∙ ap (λ (t : Told). Some t) (sym c.index.ensures) in
    ap (λ (l : LogState). slice_get l.items c.args.index) (sym c.self.view_is)
    ∙ step_at asked told c.args.index c.get.result c.index.result.now c.get.ensures that
    ∙ (λ i. Some (record { asked = c.get.result; told = sym c.answer_of.ensures i }))
