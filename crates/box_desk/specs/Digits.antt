-- Why a text in hexadecimal digits is not read.
use Rattle.hex.specs.declared.error.FromHexError.{FromHexError}
use Rattle.hex.specs.declared.error.FromHexError.TheVariants.{InvalidHexCharacter, OddLength}
use Rattle.hex.specs.declared.error.FromHexError.TheVariants.{InvalidStringLength, OutOfMemory}
use Rattle.box_desk.specs.declared.problems.Problem.{Problem}
use Rattle.box_desk.specs.declared.problems.Problem.TheVariants.{NoDigits, Memory}

abbrev pub decoding_problem : FromHexError → Problem
decoding_problem OutOfMemory = Memory
decoding_problem OddLength = NoDigits
decoding_problem InvalidStringLength = NoDigits
decoding_problem (InvalidHexCharacter c index) = NoDigits
