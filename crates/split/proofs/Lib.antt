-- Laws of the splitter. Assumes nothing.
pub mod Laws
