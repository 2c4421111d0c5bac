use Rattle.std.proofs.Common.{◌≡◌, ◌-◌, ◌++◌, ◌∷◌, [], None, option_map, slice_set, rules, refl, sym, ◌∙◌}
use Rattle.std.proofs.lemmas.List.{length-map, length-set}
use Rattle.cat_rows.specs.Batches.{tables_of}
use Rattle.cat_core.proofs.KeepLemmas.{content_then, fits_content}
use Rattle.cat_core.proofs.PlaceLemmas.{set_told}
use Rattle.cat_core.specs.Shown.{opened_slot}
use Rattle.cat_core.proofs.catalogue.CatCore.land.Goals as goal

-- what the keeper keeps are the rows
pub apply-requires : goal.apply-requires
apply-requires g c = fits_content (g.K.Keeper.content c.args.self.now.keeper) (tables_of c.args.self.now.rows) c.args.batch c.requires.in_order.content c.requires.fits

pub returns-clause-landed : goal.returns-clause-landed
returns-clause-landed g c =
    let kinds : c.push.new.self.items ≡ c.args.self.now.kinds.items ++ c.args.mine ∷ [] = search rules in
    record {
      rows = c.apply_reserved.ensures.rows;
      start = refl;
      kinds = kinds;
      opens = set_told (option_map (opened_slot g.F.Held.name g.F.Held.size g.F.Held.bytes)) c.args.self.now.slots.items c.place_of.result (c.args.session - 1) None c.place_of.ensures.place;
      held = c.hold.ensures;
    }

pub returns-clause-in_order : goal.returns-clause-in_order
returns-clause-in_order g c = record {
  content = content_then (g.K.Keeper.content c.args.self.now.keeper) (g.K.Keeper.content c.apply.new.self) (tables_of c.args.self.now.rows) (tables_of c.apply_reserved.new.rows) c.args.batch
      c.requires.in_order.content c.in-Ok.ensures.content c.apply_reserved.ensures.rows;
  sixteen =
      length-map (slice_set c.args.self.now.slots.items c.place_of.result None) (option_map (opened_slot g.F.Held.name g.F.Held.size g.F.Held.bytes))
      ∙ length-set c.args.self.now.slots.items c.place_of.result None
      ∙ sym (length-map c.args.self.now.slots.items (option_map (opened_slot g.F.Held.name g.F.Held.size g.F.Held.bytes))) ∙ c.requires.in_order.sixteen;
  made = tt;
}
