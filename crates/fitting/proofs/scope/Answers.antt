-- By its measure. Assumes nothing.
use mathlib.Core.Path.{ap, ◌∙◌}
use Rattle.comparing.specs.Items.{scan_coded}
use Rattle.comparing.specs.AsCoded.Passes.{epilogue_pass}
use Rattle.place.specs.declared.EpilogueSpan.{EpilogueSpan}
use Rattle.fitting.specs.AsCoded.Passes.{scope_by}
use Rattle.fitting.proofs.scope.Goals as goal

pub epilogue_span-w-requires : goal.epilogue_span-w-requires
epilogue_span-w-requires c = (c.requires.1, c.in-Ok.ensures.1)

pub returns-in-Ok : goal.returns-in-Ok
returns-in-Ok c =
    let a = c.args in
    let r = scan_coded a.codes.now a.e.index in
    c.epilogue.ensures
    ∙ ap (λ (w : EpilogueSpan). epilogue_pass a.code.now w.start r.list r.ending) c.epilogue_span-w.ensures.0
    ∙ ap (scope_by a.code.now a.codes.now a.span a.e) c.in-Ok.ensures.0
