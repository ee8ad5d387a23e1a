-- `metres_of` meets its contract: the program's 250000.0 is the double of 250,000. Assumes nothing.
use mathlib.Core.Path.{◌≡◌, refl, ap}
use lib.IntN.{pos}
use lib.Ieee.{binary64, div, of_int, of_bits}
use Rattle.reading.specs.Engine.{metres_of}
use Rattle.reading.proofs.engine.metres_of.Goals as goal

divisor : of_bits binary64 4687829947429945344 ≡ of_int binary64 (pos 250000)
unfolding of_int of_bits
divisor = refl

pub returns : goal.returns
unfolding metres_of
returns c = ap (div binary64 (of_int binary64 (pos c.args.height))) divisor
