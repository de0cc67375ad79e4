use Rattle.up_report.proofs.WriteParts.{all_link_texts}
use Rattle.up_report.proofs.writing.push_chain.Goals as goal

pub push_links-requires-clause-texts : goal.push_links-requires-clause-texts
push_links-requires-clause-texts c = all_link_texts c.args.sig.now c.args.names.now c.args.links.now c.requires.named c.requires.links
