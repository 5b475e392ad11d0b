-- What the program keeps of the current member, as contracts see it.
use Rattle.ans_tokens.specs.ScannerView as view
use Rattle.ans_tokens.specs.ScannerView.{KeptMember}
use Rattle.ans_tokens.specs.declared.unfinished.Current.{Current}
use Rattle.ans_tokens.specs.declared.unfinished.Current.TheVariants.{Fresh, InNumber, InString, AfterString}

abbrev pub kept_member : Current → KeptMember
kept_member Fresh = view.Fresh
kept_member (InNumber n) = view.InNumber n
kept_member (InString quote) = view.InString quote
kept_member AfterString = view.AfterString
