use Rattle.std.proofs.Common.{sym, subst}
use Rattle.ep_transfer_places.specs.Room.{view}
use Rattle.ep_transfer_pieces.specs.Puts.{FitsPut}
use Rattle.ep_transfer_pieces.proofs.AtEach.{all_follow}
use Rattle.ep_transfer_pieces.proofs.several.after_all.Goals as goal

pub put_at-requires : goal.put_at-requires
put_at-requires g c = record {
  fits = (
    c.args.room,
    (
      subst (λ d. FitsPut d c.args.room c.args.put) (sym c.in_ok-before.ensures.model) c.requires.fits,
      c.requires.room,
    ),
  );
}

pub returns : goal.returns
returns g c =
    all_follow g.N.Num.ops c.args.joint (view c.args.to.now) c.args.room c.args.spots.now c.args.put c.args.now
    c.settled.result c.in_ok-before.before c.in_ok-after.after c.in_ok-before.ensures.value
    c.in_ok-before.ensures.model c.in_ok-after.ensures.value c.in_ok-after.ensures.model c.settled.ensures.value
    (c.settled.ensures.ready c.args.room) c.settled.ensures.model
