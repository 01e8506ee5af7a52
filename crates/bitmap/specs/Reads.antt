-- How a clause names the bits of a bitmap: a `requires` says `bits_in b`, an `ensures` says `bits_in b.entry`.
use Rattle.model.specs.Bitmap.{Bits, from}
use Rattle.bitmap.specs.declared.Validity.{Validity}

abbrev pub bits_in : Validity → Bits
bits_in b = from b.start b.bytes.now
