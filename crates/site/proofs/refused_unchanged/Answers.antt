use Rattle.site.proofs.Refusals.{refused_unchanged}
use Rattle.site.proofs.Lawful.{lawful}
use Rattle.site.proofs.refused_unchanged.Goals as goal

pub returns : goal.returns
returns c =
    let a1 = lawful in
    refused_unchanged
