-- Texts as their bytes: a character below 128 is one byte, its code.
use Rattle.std.specs.Prelude.{ℕ, List, [], ◌∷◌}
use Prim.Native.Char.{Char, code}
use Prim.Native.String.{String, [] as nothing, ◌∷◌ as ◌then◌}

abbrev pub byte : Char → ℕ
byte c = code c

abbrev pub bytes : String → List ℕ
bytes nothing = []
bytes (c then s) = byte c ∷ bytes s
