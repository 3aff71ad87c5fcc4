use Rattle.std.proofs.Common.{◌≡◌, ℤ, w16, SFits, true, false, Bool, Some, Ok, Err, Result, ap, ◌∙◌, refl, rules, arith}
use Rattle.std.specs.Result.{result_ok}
use Rattle.std.proofs.lemmas.Int.{ints, to_z-of_z}
use Rattle.rows.specs.Rows.{held_by, make_answer}
use Rattle.rows.specs.Temperatures.{is_temperature, numbers_of}
use Rattle.rows.specs.declared.refusal.RowRefusal.{RowRefusal}
use Rattle.rows.specs.declared.temperature.Temperature.{Temperature}
use Rattle.calibrate.specs.Typed.{in_limits, numbers_in}
use Rattle.calibrate.proofs.typed.temperature_of.Goals as goal

-- what was made is the row of the two numbers, if they are within the limits
made : (t o : ℤ) (r : Result Temperature RowRefusal) (b : Bool) → held_by numbers_of r ≡ make_answer b (t, o) → b ≡ is_temperature (t, o) → numbers_in (result_ok r) ≡ in_limits is_temperature (t, o)
made t o (Ok x) true m e = let same : numbers_of x ≡ (t, o) = cc in rw (← e) (ap Some same)
made t o (Ok x) false m e = absurd (grind arith)
made t o (Err x) true m e = absurd (grind arith)
made t o (Err x) false m e = rw (← e)

pub returns : goal.returns
returns c =
    let x = c.in_ok-ok.field-0 in
    let y = c.in_ok-ok-2.field-0 in
    let t : x ≡ c.args.tenths = grind (arith, ints) in
    let o : y ≡ c.args.offset = grind (arith, ints) in
    let f : SFits w16 x = search rules in
    let g : SFits w16 y = search rules in
    let m : held_by numbers_of c.new.result ≡ make_answer (is_temperature (x, y)) (x, y) = simp to_z-of_z at c.new.ensures in
    ap numbers_in c.ok-3.ensures.value ∙ made c.args.tenths c.args.offset c.new.result _ (rw (t, o) at m) refl
