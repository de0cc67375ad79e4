use Rattle.std.proofs.Common.{ap, refl, subst, sym}
use Rattle.up_claims.specs.declared.report.Report.{Report}
use Rattle.up_claims.specs.declared.verdict.Verdict.{Verdict}
use Rattle.up_report.specs.Ranges.{HasVerdict}
use Rattle.updr_top.proofs.Ranged.{told_ranged}
use Rattle.updr_top.proofs.infer.report_text.Goals as goal

pub write-requires : goal.write-requires
write-requires c =
    let sys = c.args.meant.now.sys in
    let core = c.args.core.now in
    let names = c.requires.model.named in
    let told = told_ranged sys core.limits core.history c.requires.finished.whole.legal c.args.verdict c.requires.told c.requires.model.system c.stays_sound.ensures.in_range (c.if-not-is_narrow.ensures refl) in
    record {
      named = record { sorts = names.sorts.one_each; symbols = names.symbols.one_each };
      ranged = record {
        verdict_is = subst (λ (v : Verdict). HasVerdict sys.sig v) (sym (ap (λ (r : Report). r.verdict) c.report_by-report.ensures.is)) told;
        numbers_are = c.report_by-report.ensures.numbers;
      };
    }
