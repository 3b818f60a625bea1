-- `reader::whole::holds` meets its contract: each register is tested.
use Rattle.page.specs.Page.{Image}
use Rattle.reader.proofs.whole.Each.{all_tested}
use Rattle.reader.proofs.whole.holds.Goals as goal

pub returns : goal.returns
returns c =
    let im = c.args.image.now in
    let I : Image im = record { size = c.told-image; byte = c.fits-image } in
    rw (c.keeps.ensures, c.keeps-2.ensures, c.keeps-3.ensures, c.keeps-4.ensures, c.keeps-5.ensures, c.keeps-6.ensures, c.keeps-7.ensures, c.keeps-8.ensures, c.keeps-9.ensures, c.keeps-10.ensures, c.keeps-11.ensures, c.keeps-12.ensures, c.keeps-13.ensures, c.keeps-14.ensures, c.keeps-15.ensures, c.keeps-16.ensures, c.keeps-17.ensures, c.keeps-18.ensures, c.keeps-19.ensures, c.keeps-20.ensures, c.keeps-21.ensures, c.keeps-22.ensures)
    (all_tested c.args.link.board c.args.link.link im I)
