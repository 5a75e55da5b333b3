use Rattle.std.proofs.Common.{◌∙◌, ap, arith}
use Rattle.mz_model.specs.Built.{shares_of}
use Rattle.mz_model.specs.Parts.{zone_count}
use Rattle.mz_model.proofs.ShareLaws.{IsShare, share-is}
use Rattle.mz_model.proofs.problem.Problem.fraction.Goals as goal

pub index-requires : goal.index-requires
index-requires c =
    let share : IsShare c.args.self.now c.self.inside.shares.items c.len.result c.args.zone c.args.feature = share-is c.args.self.now c.self.inside.shares.items c.len.result c.args.zone c.args.feature (c.self.invariant.shares_are ∙ ap shares_of c.self.view_is) (c.len.ensures ∙ ap zone_count c.self.view_is) c.requires.zone c.requires.feature in
    omega (arith, share.inside, c.self.inside.shares.ok.0)

pub returns : goal.returns
returns c =
    c.index.ensures ∙ (share-is c.args.self.now c.self.inside.shares.items c.len.result c.args.zone c.args.feature (c.self.invariant.shares_are ∙ ap shares_of c.self.view_is) (c.len.ensures ∙ ap zone_count c.self.view_is) c.requires.zone c.requires.feature).is c.index.result.now
