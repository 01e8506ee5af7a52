pub mod ResizeLaws
