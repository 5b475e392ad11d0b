-- Where help or the version is asked for.
use Rattle.std.specs.Prelude.{◌≡◌, [], ◌∷◌}
use Rattle.clap.specs.Words.{IsAmong, Kinds}
use Rattle.clap.specs.declared.error.ErrorKind.{ErrorKind}
use Rattle.clap.specs.declared.error.ErrorKind.TheVariants.{DisplayHelp, DisplayVersion}

-- the kind is the only one, or is none of them
abbrev pub IsAloneOrNotAtAll : ErrorKind → Kinds → Type 0
IsAloneOrNotAtAll kind kinds = IsAmong kind kinds → kinds ≡ kind ∷ []

-- a request, for help or for the version, is the only one of the kinds, or is none of them
pub record IsRequestAloneOrNotAtAll (kinds : Kinds) : Type 0 where
  pub help : IsAloneOrNotAtAll DisplayHelp kinds
  pub version : IsAloneOrNotAtAll DisplayVersion kinds
