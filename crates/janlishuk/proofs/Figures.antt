-- P1 to P12 hold, all of one list. From the crates, each of which shows its own. Assumes nothing.
use Rattle.ground.specs.Figure.{AllHold}
use Rattle.ground.proofs.Figures as ground
use Rattle.index.proofs.Figures as index
use Rattle.terrain.proofs.Figures as terrain
use Rattle.reading.proofs.Figures as reading
use Rattle.path.proofs.Figures as path
use Rattle.link.proofs.Figures as link
use Rattle.plan.proofs.Figures as plan
use Rattle.janlishuk.specs.Figure.{figures}

pub every_figure_holds : AllHold figures
every_figure_holds =
    let g = ground.figures in
    let r = reading.figures in (
      g.0,
      (
        (index.figures).0,
        (g.1.0, (g.1.1.0, (g.1.1.1.0, ((terrain.figures).0, (r.0, (r.1.0, ((path.figures).0, ((link.figures).0, plan.figures)))))))),
      ),
    )
