use Rattle.std.proofs.Common.{◌↔◌, IsTrue, true, refl, sym, subst}
use Rattle.std.specs.Option.{option_copied}
use Rattle.race_script.specs.{Certificate.WaitsAt, Program.spelled}
use Rattle.race_script.proofs.course.Course.waits.Goals as goal

pub returns-in-Some : goal.returns-in-Some
returns-in-Some g c =
    let course = c.args.self.now in
    subst (λ o. IsTrue c.asks.result ↔ WaitsAt (spelled course.places.now.places course.body.now.items) course.recorded.now.places course.goroutine
    c.args.position (option_copied o)) (sym c.in-Some.is) c.asks.ensures

pub returns-in-None : goal.returns-in-None
returns-in-None g c =
    let course = c.args.self.now in
    subst (λ o. IsTrue true ↔ WaitsAt (spelled course.places.now.places course.body.now.items) course.recorded.now.places course.goroutine
    c.args.position (option_copied o)) (sym c.in-None.is) (λ _. tt, λ _. refl)
