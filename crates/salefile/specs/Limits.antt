-- The limit that the rules set for a file.
--   max_bytes   the most bytes of a file
use Rattle.std.specs.Prelude.{ℕ}

abbrev pub max_bytes : ℕ
max_bytes = 16384
