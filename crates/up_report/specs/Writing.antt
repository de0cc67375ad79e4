-- What writing a part of a report asks of it.
use Rattle.std.specs.Prelude.{◌≡◌, length}
use Rattle.fo_core.specs.declared.names.Names.{Names}
use Rattle.fo_core.specs.declared.signature.Sig.{Sig}
use Rattle.fo_text.specs.Texts.{HasText}
use Rattle.up_claims.specs.declared.verdict.Link.{Link}

-- the worlds of the link have texts, and there is a map for each sort
pub record HasLinkTexts (sig : Sig) (names : Names) (link : Link) : Type 0 where
  pub origin : HasText sig link.origin
  pub state : HasText sig link.state
  pub maps : length names.sorts ≡ length link.map.images
