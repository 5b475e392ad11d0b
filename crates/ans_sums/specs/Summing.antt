-- A hasher that is fed.
use Rattle.std.specs.Prelude.{ℕ, List}
use Rattle.sha2.specs.Hashers.{Holds256}
use Rattle.sha2.specs.declared.Sha256.{Sha256}

-- the hasher holds this message
abbrev pub Holds : Sha256 → List ℕ → Type 0
Holds hasher message = Holds256 hasher message
