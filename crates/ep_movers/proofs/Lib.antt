pub mod MoverRows
